-- The index grows up to the number of places.
use Prim.Native.Nat.{◌-◌, ◌≤◌}
use Rattle.eif.specs.Numbers.{place_count}
use Rattle.roll_cases.proofs.list.Given as goal

abbrev pub invariant-loop-i : goal.invariant-loop-i
invariant-loop-i g l = l.i ≤ place_count

abbrev pub decreases-loop-i : goal.decreases-loop-i
decreases-loop-i g l = place_count - l.i
