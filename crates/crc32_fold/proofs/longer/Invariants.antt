use Prim.Native.Nat.{◌+◌, ◌-◌, ◌≤◌}
use mathlib.Core.Path.{◌≡◌}
use lib.ListN.{length}
use Rattle.crc32_lemmas.specs.Sizes.{carry_size, ring_buffer, ring_bytes}
use Rattle.crc32.specs.Crc.{crc_from}
use Rattle.crc32_lemmas.specs.Fold.{remainder_from, sparser, mix, ring, Words}
use Rattle.crc32_fold.proofs.longer.Given as goal

abbrev pub invariant-loop-i : goal.invariant-loop-i
invariant-loop-i l = (l.i + (ring_bytes + carry_size) ≤ length l.s) × (remainder_from l.s l.i (mix sparser 32 (ring l.v 0)) ≡ crc_from l.state l.s) × Words 32 ring_buffer l.v

abbrev pub decreases-loop-i : goal.decreases-loop-i
decreases-loop-i l = length l.s - l.i
