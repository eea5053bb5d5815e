use Prim.Native.Nat.{◌-◌, ◌≤◌}
use mathlib.Core.Path.{◌≡◌}
use lib.ListN.{length}
use Rattle.sha384_cases.proofs.pattern.Given as goal

abbrev pub invariant-loop-i : goal.invariant-loop-i
invariant-loop-i l = (l.i ≤ 260) × (length l.bytes ≡ 260)

abbrev pub decreases-loop-i : goal.decreases-loop-i
decreases-loop-i l = 260 - l.i
