use Prim.Native.Nat.{◌-◌, ◌*◌, ◌%◌, ◌^◌, ◌<◌, ◌≤◌}
use mathlib.Core.Path.{◌≡◌}
use Rattle.crc32_lemmas.specs.Fold.{sparser, mix, ring, ring_size}
use Rattle.crc32_fold.proofs.Carried.{Emptied}
use Rattle.crc32_fold.proofs.empty_ring.Given as goal

abbrev pub invariant-loop-j : goal.invariant-loop-j
invariant-loop-j l = (l.j ≤ ring_size) × (l.j % 2 ≡ 0) × Emptied l.s l.at (mix sparser 32 (ring l.v 0)) l.n (l.j * 4) × (l.n.a < 2 ^ 64)

abbrev pub decreases-loop-j : goal.decreases-loop-j
decreases-loop-j l = ring_size - l.j
