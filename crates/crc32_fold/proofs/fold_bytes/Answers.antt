use Prim.Native.Nat.{ℕ, ◌+◌, ◌^◌, ◌<◌}
use mathlib.Core.Path.{◌≡◌, refl, sym, ap, ap₂, ◌∙◌}
use lib.Bits.{bit_xor, xor_lt}
use lib.ListN.{get_or, set}
use Rattle.crc32_lemmas.specs.Sizes.{buffer_size}
use Rattle.crc32_lemmas.specs.Fold.{remainder_from, sparse, mix, window, window_size}
use Rattle.crc32_lemmas.proofs.FoldWords.{bytes_turn, words_set}
use Rattle.crc32_lemmas.proofs.Remainder.{le_step}
use native.Mathlib.Omega.{arith}
use Rattle.crc32_fold.proofs.fold_bytes.Goals as goal

-- `crc32_fold::fold_bytes` meets its contract: the window goes with j.
-- Assumes nothing.
pub loop-j-init : goal.loop-j-init
loop-j-init c = let a = c.args in
    let e : a.at + 0 ≡ a.at = omega arith in
    (omega arith, ap (λ (i : ℕ). remainder_from a.s.now i (mix sparse 8 (window a.v.now 0))) e, c.requires.2)

pub loop-j-preserved : goal.loop-j-preserved
loop-j-preserved c = let l = c.loop-j in
    let a = c.args in
    let s = a.s.now in
    let q = c.added_to in
    let v = l.v in
    let h = l.invariant.2 in
    let g = h.0 in
    let i = a.at + l.j in
    let w = get_or s i 0 in
    let m : w < 256 = (c.type_inv.s i).fits in
    let e : a.at + (l.j + 1) ≡ i + 1 = omega arith in
    let o : q.result < 2 ^ 8 = omega arith in (
      omega arith,
      ap₂ (λ (n x : ℕ). remainder_from s n (mix sparse 8 (window (set v (l.j + window_size) (bit_xor x w)) (l.j + 1)))) e q.ensures
          ∙ sym (bytes_turn v l.j h.1 (omega arith) s i w (omega arith, m, le_step s i (i + 1) (omega arith) refl) (omega arith))
          ∙ l.invariant.1,
      words_set 8 buffer_size v (l.j + window_size) (bit_xor q.result w) (xor_lt 8 q.result w o m) h,
    )

pub returns : goal.returns
returns c = let l = c.loop-j in
    let a = c.args in
    let e : a.n ≡ l.j = omega arith in
    (ap (λ (n : ℕ). remainder_from a.s.now (a.at + n) (mix sparse 8 (window l.v n))) e ∙ l.invariant.1, l.invariant.2)
