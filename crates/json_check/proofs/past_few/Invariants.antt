use Prim.Native.Nat.{◌+◌, ◌≤◌}
use lib.ListN.{length}
use Rattle.json_check.specs.Bare.{BareRun}
use Rattle.json_check.proofs.past_few.Given as goal

abbrev pub invariant-loop-k : goal.invariant-loop-k
invariant-loop-k l = (l.from + l.k ≤ length l.s) × BareRun l.s l.from (l.from + l.k)
