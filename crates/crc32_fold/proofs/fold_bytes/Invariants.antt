use Prim.Native.Nat.{◌+◌, ◌-◌, ◌≤◌}
use mathlib.Core.Path.{◌≡◌}
use Rattle.crc32_lemmas.specs.Sizes.{buffer_size}
use Rattle.crc32_lemmas.specs.Fold.{remainder_from, sparse, mix, window, Words}
use Rattle.crc32_fold.proofs.fold_bytes.Given as goal

abbrev pub invariant-loop-j : goal.invariant-loop-j
invariant-loop-j l = (l.j ≤ l.n) × (remainder_from l.s (l.at + l.j) (mix sparse 8 (window l.v l.j)) ≡ remainder_from l.s l.at (mix sparse 8 (window l.initial.v 0))) × Words 8 buffer_size l.v

abbrev pub decreases-loop-j : goal.decreases-loop-j
decreases-loop-j l = l.n - l.j
