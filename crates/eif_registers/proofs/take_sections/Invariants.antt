use Prim.Native.Nat.{◌-◌, ◌≤◌}
use mathlib.Core.Path.{◌≡◌}
use lib.Seq.{slice}
use Rattle.staged.specs.View.{held_by}
use Rattle.eif_registers.specs.Registers.{hashed}
use Rattle.eif_registers.proofs.take_sections.Given as goal

abbrev pub invariant-loop-i : goal.invariant-loop-i
invariant-loop-i l = (l.i ≤ l.to) × (hashed (held_by l.base l.replacement) l.st (slice l.i l.to l.sections) ≡ hashed (held_by l.base l.replacement) l.initial.st (slice l.from l.to l.sections))

abbrev pub decreases-loop-i : goal.decreases-loop-i
decreases-loop-i l = l.to - l.i
