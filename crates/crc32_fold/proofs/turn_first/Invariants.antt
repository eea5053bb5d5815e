use Prim.Native.Nat.{◌-◌, ◌≤◌}
use Rattle.crc32_lemmas.specs.Sizes.{high_back}
use Rattle.crc32_fold.proofs.Round.{RoundKept}
use Rattle.crc32_fold.proofs.turn_first.Given as goal

abbrev pub invariant-loop-j : goal.invariant-loop-j
invariant-loop-j l = (0 ≤ l.j) × (l.j ≤ high_back) × RoundKept l.s l.at l.initial.v 0 l.at l.v l.j

abbrev pub decreases-loop-j : goal.decreases-loop-j
decreases-loop-j l = high_back - l.j
