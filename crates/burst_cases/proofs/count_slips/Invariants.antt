use Prim.Native.Nat.{◌-◌, ◌≤◌}
use Rattle.burst_cases.specs.Sizes.{stretch_count}
use Rattle.burst_cases.proofs.count_slips.Given as goal

abbrev pub invariant-loop-k : goal.invariant-loop-k
invariant-loop-k l = (l.n ≤ l.k) × (l.k ≤ stretch_count)

abbrev pub decreases-loop-k : goal.decreases-loop-k
decreases-loop-k l = stretch_count - l.k
