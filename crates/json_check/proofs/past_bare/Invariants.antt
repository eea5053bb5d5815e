use Prim.Native.Nat.{◌≤◌}
use Rattle.json_check.specs.Bare.{BareRun}
use Rattle.json_check.proofs.past_bare.Given as goal

abbrev pub invariant-loop-i : goal.invariant-loop-i
invariant-loop-i l = (l.from ≤ l.i) × BareRun l.s l.from l.i
