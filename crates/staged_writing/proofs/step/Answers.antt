use Prim.Native.Nat.{ℕ}
use mathlib.Core.Path.{ap, ◌∙◌}
use mathlib.Core.List.{List}
use lib.ListN.{length}
use Rattle.octets.specs.Over.{over}
use Rattle.writing.specs.Writing.{writing_stepped, step_bytes}
use Rattle.writing.specs.declared.Stepped.{Stepped}
use Rattle.staged_writing.specs.StagedWriting.{staged_stepped}
use Rattle.staged_writing.proofs.step.Goals as goal
use Rattle.staged_writing.proofs.step.Goals.{After-due-data, After-step-answer}

-- `staged_writing::step` meets its contract: a step of writing, lent the data that is due.
pub returns : goal.returns
unfolding staged_stepped
returns c = let t = (goal.at.returns c).After-step-answer in
    let d = (goal.at.After-step-answer t).After-due-data in
    let a = d.args in
    let room = length a.out.now in record {
      value = ap (λ (x : Stepped). record { state = record { writing = x.state; replaced = a.state.replaced }; written = x.written })
          (t.step-answer.ensures.value ∙ ap (λ (l : List ℕ). writing_stepped a.state.writing l room) d.due-data.ensures);
      out_after = t.step-answer.ensures.out_after ∙ ap (λ (l : List ℕ). over a.out.now 0 (step_bytes a.state.writing l room)) d.due-data.ensures;
    }
