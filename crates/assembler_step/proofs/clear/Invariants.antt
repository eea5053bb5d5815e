use Prim.Native.Nat.{◌-◌, ◌≤◌}
use mathlib.Core.Path.{◌≡◌}
use lib.ListN.{length, replicate}
use Rattle.octets.specs.Over.{over}
use Rattle.assembler_step.proofs.clear.Given as goal

abbrev pub invariant-loop-k : goal.invariant-loop-k
invariant-loop-k l = (l.k ≤ l.count) × (length l.marks ≡ length l.initial.marks) × (over l.marks l.k (replicate (l.count - l.k) 0) ≡ over l.initial.marks 0 (replicate l.count 0))

abbrev pub decreases-loop-k : goal.decreases-loop-k
decreases-loop-k l = l.count - l.k
