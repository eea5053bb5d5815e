use Prim.Native.Nat.{◌-◌, ◌%◌, ◌^◌, ◌<◌, ◌≤◌}
use mathlib.Core.Path.{◌≡◌}
use Rattle.octets.specs.Bytes.{le_value}
use Rattle.crc32_lemmas.specs.Fold.{sparse, mix}
use Rattle.crc32_lemmas.specs.Sizes.{emptied_size}
use Rattle.crc32_fold.proofs.Carried.{Emptied}
use Rattle.crc32_fold.proofs.empty.Given as goal

abbrev pub invariant-loop-j : goal.invariant-loop-j
invariant-loop-j l = (l.j ≤ emptied_size) × (l.j % 8 ≡ 0) × Emptied l.s l.at (mix sparse 8 (le_value l.v)) l.n l.j × (l.n.a < 2 ^ 64)

abbrev pub decreases-loop-j : goal.decreases-loop-j
decreases-loop-j l = emptied_size - l.j
