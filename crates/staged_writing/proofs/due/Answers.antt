use Prim.Native.Nat.{ℕ, ◌-◌}
use mathlib.Core.Path.{ap, ◌∙◌}
use mathlib.Core.List.{List}
use lib.ListN.{length, drop}
use Rattle.staged_writing.specs.StagedWriting.{due_data}
use Rattle.staged_writing.proofs.due.Goals as goal
use Rattle.staged_writing.proofs.due.Goals.{After-past, After-whole-bytes}

-- `staged_writing::due` meets its contract: the end of the data of the section begun last.
pub returns : goal.returns
unfolding due_data
returns c = let p = (goal.at.returns c).After-past in
    let w = (goal.at.After-past p).After-whole-bytes in
    let a = w.args in
    c.after.ensures
    ∙ ap (λ (n : ℕ). drop n w.whole-bytes.result.now) p.past.ensures
    ∙ ap (λ (l : List ℕ). drop (length l - a.state.writing.section_left) l) w.whole-bytes.ensures
