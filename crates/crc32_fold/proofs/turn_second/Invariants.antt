use Prim.Native.Nat.{◌+◌, ◌-◌, ◌*◌, ◌≤◌}
use Rattle.crc32_lemmas.specs.Sizes.{high_back, low_back}
use Rattle.crc32_fold.proofs.Round.{RoundKept}
use Rattle.crc32_fold.proofs.turn_second.Given as goal

abbrev pub invariant-loop-j : goal.invariant-loop-j
invariant-loop-j l = (high_back ≤ l.j) × (l.j ≤ low_back) × RoundKept l.s (l.at + 4 * high_back) l.initial.v high_back l.at l.v l.j

abbrev pub decreases-loop-j : goal.decreases-loop-j
decreases-loop-j l = low_back - l.j
