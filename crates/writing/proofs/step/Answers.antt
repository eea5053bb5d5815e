use mathlib.Core.Path.{sym, ap, ◌∙◌}
use native.Mathlib.Omega.{arith}
use lib.ListN.{length}
use Rattle.octets.specs.Over.{over}
use Rattle.writing.proofs.Steps.{step_data_holds, step_header, step_section, step_none, begins_inside}
use Rattle.writing.proofs.step.Goals as goal
use Rattle.writing.proofs.step.Goals.{After-begin_section, After-begins, After-write_data, After-write_header}

-- `writing::step` meets its contract: each return is a row of the definition.
pub returns-then-state-ne0 : goal.returns-then-state-ne0
returns-then-state-ne0 c = let w = (goal.at.returns-then-state-ne0 c).After-write_data in
    let a = w.args in
    let r = step_data_holds a.state a.lent.now (length a.out.now) (λ e. omega arith) in
    record { value = w.write_data.ensures.value ∙ r.0; out_after = w.write_data.ensures.out_after ∙ ap (over a.out.now 0) r.1 }

pub returns-then-state : goal.returns-then-state
returns-then-state c = let w = (goal.at.returns-then-state c).After-write_header in
    let a = w.args in
    let r = step_header a.state a.lent.now (length a.out.now) (omega arith) (omega arith) in
    record { value = w.write_header.ensures.value ∙ r.0; out_after = w.write_header.ensures.out_after ∙ ap (over a.out.now 0) r.1 }

pub begin_section-requires : goal.begin_section-requires
begin_section-requires c = let b = (goal.at.begin_section-requires c).After-begins in
    let a = b.args in
    let h = begins_inside a.state (length a.out.now) (sym b.begins.ensures ∙ c.if-begins.true) in
    omega arith

pub returns-then-begins : goal.returns-then-begins
returns-then-begins c = let w = (goal.at.returns-then-begins c).After-begin_section in
    let b = (goal.at.After-begin_section w).After-begins in
    let a = b.args in
    let r = step_section a.state a.lent.now (length a.out.now) (omega arith) (omega arith) (sym b.begins.ensures ∙ w.if-begins.true) in
    record { value = w.begin_section.ensures.value ∙ r.0; out_after = w.begin_section.ensures.out_after ∙ ap (over a.out.now 0) r.1 }

pub returns : goal.returns
unfolding over
returns c = let b = (goal.at.returns c).After-begins in
    let a = b.args in
    let r = step_none a.state a.lent.now (length a.out.now) (omega arith) (omega arith) (sym b.begins.ensures ∙ c.if-begins.false) in
    record { value = r.0; out_after = ap (over a.out.now 0) r.1 }
