use Prim.Native.Nat.{◌-◌, ◌≤◌}
use mathlib.Core.Path.{◌≡◌}
use lib.ListN.{length}
use Rattle.sha384_cases.proofs.lengths.Given as goal

abbrev pub invariant-loop-n : goal.invariant-loop-n
invariant-loop-n l = (l.n ≤ 261) × (length l.bytes ≡ 260)

abbrev pub decreases-loop-n : goal.decreases-loop-n
decreases-loop-n l = 261 - l.n
