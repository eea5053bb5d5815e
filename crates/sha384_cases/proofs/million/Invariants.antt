use Prim.Native.Nat.{◌-◌, ◌≤◌}
use mathlib.Core.Path.{◌≡◌}
use lib.ListN.{length}
use Rattle.sha384_cases.proofs.million.Given as goal

abbrev pub invariant-loop-i : goal.invariant-loop-i
invariant-loop-i l = (l.i ≤ 1000) × (length l.letters ≡ 1000)

abbrev pub decreases-loop-i : goal.decreases-loop-i
decreases-loop-i l = 1000 - l.i
