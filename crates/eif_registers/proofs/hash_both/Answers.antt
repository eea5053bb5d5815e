use mathlib.Core.Path.{refl, ap, ◌∙◌}
use native.Mathlib.Omega.{arith}
use lib.Seq.{slice}
use Rattle.sha384.specs.declared.State.{State}
use Rattle.staged.specs.View.{held_by}
use Rattle.eif_registers.specs.Registers.{hashed}
use Rattle.eif_registers.proofs.Hashed.{in_two}
use Rattle.eif_registers.proofs.hash_both.Goals as goal

-- `eif_registers::hash_both` meets its contract: both go on from the state after what they have in common. Assumes nothing.
pub returns : goal.returns
returns c = let a = c.args in
    let s = held_by a.base.now a.replacement.now in
    let n = c.alike-shared in
    let start = c.take_sections-start in
    let begun = start.ensures ∙ ap (λ (x : State). hashed s x (slice 0 n.result a.whole.sections)) c.new.ensures in record { whole_value = in_two s a.whole.sections a.whole.sections n.result a.whole.count start.result c.take_sections-whole_end.result (omega arith) refl begun c.take_sections-whole_end.ensures; boot_value = in_two s a.whole.sections a.boot.sections n.result a.boot.count start.result c.take_sections-boot_end.result (omega arith) n.ensures.1 begun c.take_sections-boot_end.ensures }
