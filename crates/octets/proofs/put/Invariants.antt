use Prim.Native.Nat.{◌+◌, ◌-◌, ◌≤◌}
use mathlib.Core.Path.{◌≡◌}
use lib.ListN.{length, drop}
use Rattle.octets.specs.ByteOrder.{bytes_of}
use Rattle.octets.specs.Over.{over}
use Rattle.octets.proofs.put.Given as goal

abbrev pub invariant-loop-k : goal.invariant-loop-k
invariant-loop-k l = (l.k ≤ l.count) × (length l.out ≡ length l.initial.out) × (over l.out (l.at + l.k) (drop l.k (bytes_of l.order l.width l.n)) ≡ over l.initial.out l.at (bytes_of l.order l.width l.n))

abbrev pub decreases-loop-k : goal.decreases-loop-k
decreases-loop-k l = l.count - l.k
