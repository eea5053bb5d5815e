use Prim.Native.Nat.{◌+◌, ◌-◌, ◌*◌, ◌≤◌}
use Rattle.crc32_lemmas.specs.Sizes.{low_back}
use Rattle.crc32_lemmas.specs.Fold.{ring_size}
use Rattle.crc32_fold.proofs.Round.{RoundKept}
use Rattle.crc32_fold.proofs.turn_third.Given as goal

abbrev pub invariant-loop-j : goal.invariant-loop-j
invariant-loop-j l = (low_back ≤ l.j) × (l.j ≤ ring_size) × RoundKept l.s (l.at + 4 * low_back) l.initial.v low_back l.at l.v l.j

abbrev pub decreases-loop-j : goal.decreases-loop-j
decreases-loop-j l = ring_size - l.j
