use Prim.Native.Nat.{ℕ, ◌-◌, ◌<◌, ◌≤◌}
use mathlib.Core.Path.{◌≡◌}
use lib.ListN.{get_or}
use Rattle.crc32_lemmas.specs.Sizes.{buffer_size, cleared_size}
use Rattle.crc32_lemmas.specs.Fold.{Words, window_size}
use Rattle.crc32_fold.proofs.clear.Given as goal

abbrev pub invariant-loop-j : goal.invariant-loop-j
invariant-loop-j l = (window_size ≤ l.j) × (l.j ≤ cleared_size) × ((k : ℕ) → k < window_size → get_or l.v k 0 ≡ get_or l.initial.v k 0) × ((k : ℕ) → k < l.j → window_size ≤ k → get_or l.v k 0 ≡ 0) × Words 8 buffer_size l.v

abbrev pub decreases-loop-j : goal.decreases-loop-j
decreases-loop-j l = cleared_size - l.j
