-- The index grows up to the number of bytes.
use Prim.Native.Nat.{◌-◌, ◌≤◌}
use Rattle.cose.specs.Sign1.{register_size}
use Rattle.cose_cases.proofs.value_of.Given as goal

abbrev pub invariant-loop-i : goal.invariant-loop-i
invariant-loop-i l = l.i ≤ register_size

abbrev pub decreases-loop-i : goal.decreases-loop-i
decreases-loop-i l = register_size - l.i
