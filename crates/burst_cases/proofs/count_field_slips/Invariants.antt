use Prim.Native.Nat.{◌-◌, ◌≤◌}
use Rattle.burst_cases.proofs.count_field_slips.Given as goal

abbrev pub invariant-loop-bits : goal.invariant-loop-bits
invariant-loop-bits l = (l.n ≤ l.bits) × (l.bits ≤ 255)

abbrev pub decreases-loop-bits : goal.decreases-loop-bits
decreases-loop-bits l = 255 - l.bits
