use Prim.Native.Nat.{◌+◌, ◌-◌, ◌≤◌}
use mathlib.Core.Path.{◌≡◌}
use lib.ListN.{length, drop}
use Rattle.octets.specs.Over.{over}
use Rattle.octets.proofs.copy.Given as goal

abbrev pub invariant-loop-k : goal.invariant-loop-k
invariant-loop-k l = (l.k ≤ l.fits) × (length l.out ≡ length l.initial.out) × (over l.out (l.at + l.k) (drop l.k l.s) ≡ over l.initial.out l.at l.s)

abbrev pub decreases-loop-k : goal.decreases-loop-k
decreases-loop-k l = l.fits - l.k
