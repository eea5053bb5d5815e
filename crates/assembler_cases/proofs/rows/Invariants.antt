use Prim.Native.Nat.{◌-◌}
use mathlib.Core.Path.{◌≡◌}
use lib.ListN.{length}
use Rattle.assembler_cases.proofs.rows.Given as goal

abbrev pub invariant-loop-i : goal.invariant-loop-i
invariant-loop-i g l = (length l.image ≡ length l.initial.image) × (length l.marks ≡ length l.initial.marks)

abbrev pub decreases-loop-i : goal.decreases-loop-i
decreases-loop-i g l = l.bound - l.i
