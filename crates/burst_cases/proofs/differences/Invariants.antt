use Prim.Native.Nat.{◌-◌, ◌≤◌}
use Rattle.burst_cases.specs.Sizes.{damaged_size}
use Rattle.burst_cases.proofs.differences.Given as goal

abbrev pub invariant-loop-i : goal.invariant-loop-i
invariant-loop-i g l = l.i ≤ damaged_size

abbrev pub decreases-loop-i : goal.decreases-loop-i
decreases-loop-i g l = damaged_size - l.i
