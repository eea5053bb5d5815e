use mathlib.Core.Path.{sym, ap, ◌∙◌}
use lib.ListN.{length}
use Rattle.eif.specs.declared.Verdict.{Verdict}
use Rattle.staged.specs.Staged.{staged_verdict, afresh}
use Rattle.eif_registers.specs.Registers.{image_registers, no_registers, registers_for, staged_registers}
use Rattle.eif_registers.proofs.Answers.{three, beside_refused, beside_accepted}
use Rattle.eif_registers.proofs.Staged.{verdict_is, view_is}
use Rattle.eif_registers.proofs.registers_staged.Goals as goal
use Rattle.eif_registers.proofs.registers_staged.Goals.{After-judge-view}

-- `eif_registers::registers_staged` meets its contract: the refusal of the base's staged view and zeros, or the step over that view. Assumes
-- nothing.
pub returns-in_default : goal.returns-in_default
unfolding staged_registers
returns-in_default c = let w = (goal.at.returns-in_default c).After-judge-view in
    let a = w.args in
    let s = a.base.now in
    let r = a.replacement.now in
    let t = c.in_default in
    c.refused.ensures ∙ ap (λ (v : Verdict). registers_for v no_registers) t.is
    ∙ beside_refused (staged_verdict s (length r) a.replaced a.replaced) (afresh s r a.replaced) t.field-0
    (sym (verdict_is s r a.replaced w.judge-view.result w.judge-view.ensures) ∙ t.is)

pub returns : goal.returns
unfolding image_registers staged_registers
returns c = let w = (goal.at.returns c).After-judge-view in
    let a = w.args in
    let s = a.base.now in
    let r = a.replacement.now in
    let t = c.in-Accepted.is in
    c.measured.ensures
    ∙ ap three (c.step_view-all.ensures ∙ view_is s r a.replaced w.judge-view.result w.judge-view.ensures t)
    ∙ beside_accepted (staged_verdict s (length r) a.replaced a.replaced) (afresh s r a.replaced)
    (sym (verdict_is s r a.replaced w.judge-view.result w.judge-view.ensures) ∙ t)
