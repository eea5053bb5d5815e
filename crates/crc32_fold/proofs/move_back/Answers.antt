use Prim.Native.Nat.{◌+◌, ◌<◌}
use mathlib.Core.Path.{refl}
use lib.ListN.{get_or}
use Rattle.crc32_lemmas.specs.Sizes.{buffer_size}
use Rattle.crc32_lemmas.proofs.FoldWords.{moves, stayed, window_moved, words_set}
use native.Mathlib.Omega.{arith}
use Rattle.crc32_fold.proofs.move_back.Goals as goal

-- `crc32_fold::move_back` meets its contract: the bytes passed are those n further on, and those to come are as they were.
-- Assumes nothing.
pub loop-j-init : goal.loop-j-init
loop-j-init c = (omega arith, (λ k l. absurd (omega arith)), (λ k l. refl), c.requires.2)

pub loop-j-preserved : goal.loop-j-preserved
loop-j-preserved c = let l = c.loop-j in
    let a = c.args in
    let m : l.j < buffer_size = omega arith in
    let h = l.invariant.3 in (
      omega arith,
      moves a.v.now l.v a.n l.j h l.invariant.1 l.invariant.2 m,
      stayed a.v.now l.v a.n l.j h l.invariant.1 l.invariant.2 m,
      words_set 8 buffer_size l.v l.j (get_or l.v (l.j + a.n) 0) (h.1 (l.j + a.n)) h,
    )

pub returns : goal.returns
returns c = let l = c.loop-j in
    let a = c.args in
    (window_moved a.v.now l.v a.n (λ k m. l.invariant.1 k (omega arith)), l.invariant.3)
