use Prim.Native.Nat.{◌-◌, ◌≤◌}
use mathlib.Core.Path.{◌≡◌}
use lib.ListN.{length}
use Rattle.eif.specs.Rules.{type_fault, first_fault}
use Rattle.type_judge.specs.Kinds.{listed_kind}
use Rattle.plan_judge.proofs.judge_types.Given as goal

abbrev pub invariant-loop-i : goal.invariant-loop-i
invariant-loop-i l = (l.i ≤ length l.kinds) × (first_fault (type_fault l.version (listed_kind l.kinds)) (length l.kinds - l.i) l.i ≡ first_fault (type_fault l.version (listed_kind l.kinds)) (length l.kinds) 0)

abbrev pub decreases-loop-i : goal.decreases-loop-i
decreases-loop-i l = length l.kinds - l.i
