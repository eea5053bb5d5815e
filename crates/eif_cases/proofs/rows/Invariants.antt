-- The place stays within the table.
use Prim.Native.Nat.{◌-◌, ◌≤◌}
use Rattle.eif.specs.Numbers.{place_count}
use Rattle.eif_cases.proofs.rows.Given as goal

abbrev pub invariant-loop-i : goal.invariant-loop-i
invariant-loop-i g l = l.i ≤ place_count

abbrev pub decreases-loop-i : goal.decreases-loop-i
decreases-loop-i g l = place_count - l.i
