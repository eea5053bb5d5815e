use Prim.Native.Nat.{ℕ, min}
use mathlib.Core.Path.{ap, ◌∙◌}
use Rattle.eif.specs.Output.{written_for}
use Rattle.eif.specs.declared.Verdict.TheVariants.{Accepted}
use Rattle.staged.specs.View.{held_by}
use Rattle.roll_writer.specs.Write.{count_most, sections_roll}
use Rattle.roll_writer.proofs.Steps.{size_is}
use Rattle.roll_writer.proofs.After.{length_refused, length_accepted}
use Rattle.roll_writer.proofs.length_of.Goals as goal

-- `roll_writer::length_of` meets its contract: the refusal, or what was counted.
pub returns-in_default : goal.returns-in_default
returns-in_default c = let a = c.args in
    let t = c.in_default in
    length_refused a.verdict (sections_roll a.flags (held_by a.base.now a.replacement.now) a.sections) t.field-0 t.is

pub returns : goal.returns
returns c = let a = c.args in
    let held = held_by a.base.now a.replacement.now in
    ap (written_for Accepted) (c.roll_size.ensures ∙ ap (λ (n : ℕ). min n count_most) (size_is held a.flags a.sections))
    ∙ length_accepted a.verdict (sections_roll a.flags held a.sections) c.in-Accepted.is
