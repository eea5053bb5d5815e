use mathlib.Core.Path.{sym, ap, ◌∙◌}
use Rattle.eif.specs.Reading.{verdict_of}
use Rattle.eif.specs.declared.Verdict.{Verdict}
use Rattle.eif_lemmas.proofs.Reading.{verdict_is}
use Rattle.eif_registers.specs.Registers.{image_registers, no_registers, registers_for, registers_answer}
use Rattle.eif_registers.proofs.Answers.{three, beside_refused, beside_accepted, step_is}
use Rattle.eif_registers.proofs.registers.Goals as goal
use Rattle.eif_registers.proofs.registers.Goals.{After-read-reading}

-- `eif_registers::registers` meets its contract: the image's refusal and zeros, or the step over its reading. Assumes nothing.
pub returns-in_default : goal.returns-in_default
unfolding registers_answer
returns-in_default c = let w = (goal.at.returns-in_default c).After-read-reading in
    let s = w.args.image.now in
    let t = c.in_default in
    c.refused.ensures ∙ ap (λ (v : Verdict). registers_for v no_registers) t.is
    ∙ beside_refused (verdict_of s) s t.field-0 (sym (verdict_is s w.read-reading.result w.read-reading.ensures) ∙ t.is)

pub returns : goal.returns
unfolding image_registers registers_answer
returns c = let w = (goal.at.returns c).After-read-reading in
    let s = w.args.image.now in
    let ok = sym (verdict_is s w.read-reading.result w.read-reading.ensures) ∙ c.in-Accepted.is in
    c.measured.ensures ∙ ap three (c.step-all.ensures ∙ step_is s ok w.read-reading.result w.read-reading.ensures) ∙ beside_accepted (verdict_of s) s ok
