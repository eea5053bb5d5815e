use Prim.Native.Nat.{◌+◌, ◌-◌, ◌≤◌}
use mathlib.Core.Path.{◌≡◌}
use lib.ListN.{length}
use Rattle.crc32_lemmas.specs.Sizes.{carry_size, emptied_size, buffer_size}
use Rattle.crc32.specs.Crc.{crc_from}
use Rattle.crc32_lemmas.specs.Fold.{remainder_from, sparse, mix, window, Words}
use Rattle.crc32_fold.proofs.long.Given as goal

abbrev pub invariant-loop-i : goal.invariant-loop-i
invariant-loop-i l = (l.i + (emptied_size + carry_size) ≤ length l.s) × (remainder_from l.s l.i (mix sparse 8 (window l.v 0)) ≡ crc_from l.state l.s) × Words 8 buffer_size l.v

abbrev pub decreases-loop-i : goal.decreases-loop-i
decreases-loop-i l = length l.s - l.i
