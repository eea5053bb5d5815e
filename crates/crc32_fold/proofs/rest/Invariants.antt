use Prim.Native.Nat.{◌+◌, ◌-◌, ◌^◌, ◌<◌, ◌≤◌}
use mathlib.Core.Path.{◌≡◌}
use lib.ListN.{length}
use Rattle.crc32_lemmas.specs.Fold.{remainder_from}
use Rattle.crc32_lemmas.specs.Sizes.{carry_size}
use Rattle.crc32_fold.specs.Carried.{carried}
use Rattle.crc32_fold.proofs.rest.Given as goal

abbrev pub invariant-loop-i : goal.invariant-loop-i
invariant-loop-i l = (l.i + carry_size ≤ length l.s) × (remainder_from l.s l.i (carried l.n) ≡ remainder_from l.s l.from (carried l.initial.n)) × (l.n.a < 2 ^ 64)

abbrev pub decreases-loop-i : goal.decreases-loop-i
decreases-loop-i l = length l.s - l.i
