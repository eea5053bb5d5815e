use Prim.Native.Nat.{◌-◌, ◌≤◌, min}
use mathlib.Core.Path.{◌≡◌}
use lib.ListN.{length, drop}
use Rattle.octets.specs.Over.{over}
use Rattle.stream_reader.proofs.Listed.{passed}
use Rattle.stream_reader.proofs.copy_listed.Given as goal

abbrev pub invariant-loop-i : goal.invariant-loop-i
invariant-loop-i l = (l.i ≤ l.count) × (l.skip ≡ l.initial.skip - length (passed l.image l.sections l.i)) × (l.done ≡ min (length l.initial.out) (length (passed l.image l.sections l.i) - l.initial.skip))
    × (l.out ≡ over l.initial.out 0 (drop l.initial.skip (passed l.image l.sections l.i)))

abbrev pub decreases-loop-i : goal.decreases-loop-i
decreases-loop-i l = l.count - l.i
