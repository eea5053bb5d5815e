-- What five numbers carry, in turns: each turn is one word further, and the remainder stays.
-- Assumes nothing.
use Prim.Native.Nat.{ℕ, ◌+◌, ◌-◌, ◌*◌, ◌%◌, ◌^◌, ◌<◌, ◌≤◌}
use mathlib.Core.Path.{◌≡◌, refl, sym, ap, ap₂, ◌∙◌}
use mathlib.Core.List.{List, [], ◌∷◌}
use native.Mathlib.Omega.{arith}
use lib.ListN.{length, get_or}
use lib.Bits.{bit_xor, xor_mod, xor_zero_l, xor_zero_r}
use Rattle.crc32.proofs.Xor.{xor_assoc}
use Rattle.crc32_lemmas.specs.Fold.{down, sparse, spread, num, remainder_from, past_word}
use Rattle.crc32_lemmas.specs.Sizes.{word_and_carry}
use Rattle.crc32_lemmas.proofs.Sparse.{down_add, bits_spread}
use Rattle.crc32_lemmas.proofs.Remainder.{At, remainder_fold, xor_last}
use Rattle.crc32_lemmas.proofs.Joined.{up_zero, down_places, num_low}
use Rattle.crc32_fold.specs.declared.Carry.{Carry}
use Rattle.crc32_fold.specs.Carried.{carried}

-- ---- the remainder of what is left
module _ (n : Carry) (l : n.a < 2 ^ 64) (s : List ℕ) (i w : ℕ) (h : At s i 8 w) (k : i + word_and_carry ≤ length s) where
  carried_low : carried n % 2 ^ 64 ≡ n.a
  unfolding carried
  carried_low = num_low 64 4 (λ (j : ℕ). get_or (n.a ∷ n.b ∷ n.c ∷ n.d ∷ n.e ∷ []) j 0) l

  enough : past_word + 64 ≤ 8 * (length s - (i + 8))
  enough = omega arith

  pub bits_turn : remainder_from s i (carried n) ≡ remainder_from s (i + 8) (bit_xor (down 64 (carried n)) (spread sparse 1 past_word (bit_xor n.a w)))
  bits_turn =
      remainder_fold sparse 1 8 past_word bits_spread s i w (carried n) h enough
      ∙ ap (λ (x : ℕ). remainder_from s (i + 8) (bit_xor (down 64 (carried n)) (spread sparse 1 past_word (bit_xor x w)))) carried_low

  -- with y added too, which moves on
  bits_turn_under : (y : ℕ) → remainder_from s i (bit_xor (carried n) y)
      ≡ remainder_from s (i + 8) (bit_xor (bit_xor (down 64 (carried n)) (spread sparse 1 past_word (bit_xor n.a (bit_xor (y % 2 ^ 64) w)))) (down 64 y))
  bits_turn_under y =
      let x : ℕ = carried n in
      let lo : bit_xor (bit_xor x y % 2 ^ 64) w ≡ bit_xor n.a (bit_xor (y % 2 ^ 64) w) =
      ap (λ (z : ℕ). bit_xor z w) (xor_mod x y 64 ∙ ap (λ (z : ℕ). bit_xor z (y % 2 ^ 64)) carried_low) ∙ xor_assoc n.a (y % 2 ^ 64) w in
      remainder_fold sparse 1 8 past_word bits_spread s i w (bit_xor x y) h enough
      ∙ ap (remainder_from s (i + 8)) (ap₂ (λ (p q : ℕ). bit_xor p (spread sparse 1 past_word q)) (down_add 64 x y) lo ∙ xor_last (down 64 x) (down 64 y) (spread sparse 1 past_word (bit_xor n.a (bit_xor (y % 2 ^ 64) w))))

-- ---- a number alone
pub carried_one : (x : ℕ) → carried (record { a = x; b = 0; c = 0; d = 0; e = 0 }) ≡ x
unfolding carried num
carried_one x = simp (up_zero, xor_zero_r, xor_zero_l)

-- ---- what a window adds is emptied: the bytes under it are folded as bits, eight at a time, with what it adds to them

-- y is what the window adds from `at` on; p bytes further, n carries what they left, the rest of y is still to be added, and the remainder stays
abbrev pub Emptied : List ℕ → ℕ → ℕ → Carry → ℕ → Type 0
Emptied s at y n p = remainder_from s (at + p) (bit_xor (carried n) (down (8 * p) y)) ≡ remainder_from s at y

module _ (s : List ℕ) (at y : ℕ) where
  pub emptied_start : Emptied s at y (record { a = 0; b = 0; c = 0; d = 0; e = 0 }) 0
  unfolding down
  emptied_start =
      let e : at + 0 ≡ at = omega arith in
      let z : down 0 y ≡ y = omega arith in
      ap₂ (remainder_from s) e (ap₂ bit_xor (carried_one 0) z ∙ xor_zero_l y)

  -- eight bytes more, the word w; x is what the window adds to them, and m what is carried then
  pub emptied_next : (n m : Carry) (p w x : ℕ) → n.a < 2 ^ 64 → At s (at + p) 8 w → at + p + word_and_carry ≤ length s → x ≡ down (8 * p) y % 2 ^ 64
      → carried m ≡ bit_xor (down 64 (carried n)) (spread sparse 1 past_word (bit_xor n.a (bit_xor x w))) → Emptied s at y n p → Emptied s at y m (p + 8)
  emptied_next n m p w x l h k adds folded so_far =
      let e : at + (p + 8) ≡ at + p + 8 = omega arith in
      let u = folded ∙ ap (λ (z : ℕ). bit_xor (down 64 (carried n)) (spread sparse 1 past_word (bit_xor n.a (bit_xor z w)))) adds in
      ap₂ (remainder_from s) e (ap₂ bit_xor u (sym (down_places 8 p 8 (p + 8) y refl))) ∙ sym (bits_turn_under n l s (at + p) w h k (down (8 * p) y)) ∙ so_far

  -- and nothing of the window is left
  pub emptied_end : (n : Carry) (p end : ℕ) → p ≡ end → down (8 * end) y ≡ 0 → Emptied s at y n p → remainder_from s (at + end) (carried n) ≡ remainder_from s at y
  emptied_end n p end e none so_far =
      let z = ap (λ (q : ℕ). down (8 * q) y) e ∙ none in
      ap₂ (λ (q : ℕ) (x : ℕ). remainder_from s (at + q) x) (sym e) (sym (ap (bit_xor (carried n)) z ∙ xor_zero_r (carried n))) ∙ so_far
