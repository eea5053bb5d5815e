use Prim.Native.Nat.{◌≤◌}
use mathlib.Core.Path.{◌≡◌}
use lib.ListN.{length}
use Rattle.eif.specs.Rules.{seen}
use Rattle.type_judge.specs.Kinds.{listed_kind}
use Rattle.type_judge.proofs.holds.Given as goal

abbrev pub invariant-loop-j : goal.invariant-loop-j
invariant-loop-j l = (l.j ≤ length l.kinds) × (seen (listed_kind l.kinds) l.kind l.j ≡ seen (listed_kind l.kinds) l.kind (length l.kinds))

abbrev pub decreases-loop-j : goal.decreases-loop-j
decreases-loop-j l = l.j
