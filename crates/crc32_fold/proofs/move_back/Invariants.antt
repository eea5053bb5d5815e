use Prim.Native.Nat.{ℕ, ◌+◌, ◌-◌, ◌<◌, ◌≤◌}
use mathlib.Core.Path.{◌≡◌}
use lib.ListN.{get_or}
use Rattle.crc32_lemmas.specs.Sizes.{buffer_size}
use Rattle.crc32_lemmas.specs.Fold.{Words, window_size}
use Rattle.crc32_fold.proofs.move_back.Given as goal

abbrev pub invariant-loop-j : goal.invariant-loop-j
invariant-loop-j l = (l.j ≤ window_size) × ((k : ℕ) → k < l.j → get_or l.v k 0 ≡ get_or l.initial.v (l.n + k) 0) × ((k : ℕ) → l.j ≤ k → get_or l.v k 0 ≡ get_or l.initial.v k 0) × Words 8 buffer_size l.v

abbrev pub decreases-loop-j : goal.decreases-loop-j
decreases-loop-j l = window_size - l.j
