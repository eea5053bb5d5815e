use Prim.Native.Nat.{◌+◌}
use mathlib.Core.Path.{◌≡◌}
use mathlib.Core.Bool.{false}
use Rattle.json_check.specs.Bare.{BareRun}
use Rattle.json_check.proofs.odd8.Given as goal

abbrev pub invariant-loop-k : goal.invariant-loop-k
invariant-loop-k l = l.bad ≡ false → BareRun l.s l.i (l.i + l.k)
