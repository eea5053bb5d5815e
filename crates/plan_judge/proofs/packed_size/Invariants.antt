use Prim.Native.Nat.{◌+◌, ◌-◌, ◌≤◌}
use mathlib.Core.Path.{◌≡◌}
use Rattle.eif.specs.Numbers.{size_limit}
use Rattle.eif.specs.Plan.{packed_at}
use Rattle.plan_judge.proofs.packed_size.Given as goal

abbrev pub invariant-loop-i : goal.invariant-loop-i
invariant-loop-i l = (l.i ≤ l.count) × (l.left + packed_at l.places l.i ≡ size_limit)

abbrev pub decreases-loop-i : goal.decreases-loop-i
decreases-loop-i l = l.count - l.i
