use Prim.Native.Nat.{◌-◌, ◌≤◌}
use lib.ListN.{length}
use Rattle.arriving_register_cases.proofs.measured.Given as goal

abbrev pub invariant-loop-calls : goal.invariant-loop-calls
invariant-loop-calls l = l.calls ≤ length l.image

abbrev pub decreases-loop-calls : goal.decreases-loop-calls
decreases-loop-calls l = length l.image - l.calls
