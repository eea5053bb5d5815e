use Prim.Native.Nat.{ℕ, ◌≤◌}
use mathlib.Core.Path.{◌≡◌, refl, ◌∙◌}
use borrow.Author.Count.{below_more}
use lib.Dec.{lit<}
use lib.ListN.{get_or, set}
use lib.Seq.{get_or-set_same, get_or-set_other}
use Rattle.crc32_lemmas.specs.Sizes.{buffer_size}
use Rattle.crc32_lemmas.specs.Fold.{window_size}
use Rattle.crc32_lemmas.proofs.FoldWords.{words_set}
use Rattle.crc32_lemmas.proofs.FoldBytes.{cleared}
use native.Mathlib.Omega.{arith}
use Rattle.crc32_fold.proofs.clear.Goals as goal

-- `crc32_fold::clear` meets its contract: the window stays, and what was passed after it is zero.
-- Assumes nothing.
pub loop-j-init : goal.loop-j-init
loop-j-init c = (omega arith, omega arith, (λ k l. refl), (λ k l m. absurd (omega arith)), c.requires)

pub loop-j-preserved : goal.loop-j-preserved
loop-j-preserved c = let l = c.loop-j in
    let v = l.v in
    let j = l.j in
    let h = l.invariant.4 in
    let g = h.0 in (
      omega arith,
      omega arith,
      (λ k m. get_or-set_other v j k 0 0 (λ e. omega arith) ∙ l.invariant.2 k m),
      below_more (λ (k : ℕ). window_size ≤ k → get_or (set v j 0) k 0 ≡ 0) j
          (λ k m o. get_or-set_other v j k 0 0 (λ e. omega arith) ∙ l.invariant.3 k m o)
          (λ o. get_or-set_same v j 0 0 (omega arith)),
      words_set 8 buffer_size v j 0 (lit< tt) h,
    )

pub returns : goal.returns
returns c = let l = c.loop-j in
    let h = l.invariant.4 in
    (cleared c.args.v.now l.v h.1 l.invariant.2 (λ k m o. l.invariant.3 k (omega arith) m), h.0)
