-- Bits folded: five words as one number, and what a word that was taken away adds to them.
-- Assumes nothing.
use Prim.Native.Nat.{ℕ, ◌+◌, ◌*◌, ◌/◌, ◌%◌, ◌^◌, ◌<◌}
use mathlib.Core.Path.{◌≡◌, refl, sym, ap, ap₂, ◌∙◌}
use mathlib.Core.List.{[], ◌∷◌}
use lib.ListN.{get_or}
use lib.Bits.{bit_xor, xor_zero_l, xor_zero_r}
use Rattle.crc32_lemmas.specs.Fold.{down, up, taps, mix, sparse, spread, num, past_word, low_power, mid_power, high_power}
use Rattle.crc32_lemmas.proofs.Sparse.{down_up}
use Rattle.crc32_lemmas.proofs.Joined.{up_up, up_zero, two_words, num_xor, num_down}

-- five words
abbrev pub five_words : ℕ → ℕ → ℕ → ℕ → ℕ → ℕ
five_words a b c d e = num 64 5 (λ (k : ℕ). get_or (a ∷ b ∷ c ∷ d ∷ e ∷ []) k 0)

five_xor : (a b c d e a' b' c' d' e' : ℕ) → bit_xor (five_words a b c d e) (five_words a' b' c' d' e') ≡ five_words (bit_xor a a') (bit_xor b b') (bit_xor c c') (bit_xor d d') (bit_xor e e')
unfolding num
five_xor a b c d e a' b' c' d' e' = num_xor 64 5 (λ (k : ℕ). get_or (a ∷ b ∷ c ∷ d ∷ e ∷ []) k 0) (λ (k : ℕ). get_or (a' ∷ b' ∷ c' ∷ d' ∷ e' ∷ []) k 0)

-- a word further
five_shift : (a b c d : ℕ) → five_words 0 a b c d ≡ up 64 (five_words a b c d 0)
unfolding num
five_shift a b c d = simp (up_zero, xor_zero_r)

-- a number k places up is two words among five; from 0, 1, 2 and 3 on
module _ (k t u : ℕ) (e : k + t ≡ 64) where
  up_0 : five_words (u * 2 ^ k % 2 ^ 64) (u / 2 ^ t) 0 0 0 ≡ up k u
  unfolding num
  up_0 = simp (up_zero, xor_zero_r) (two_words k t u e)

  up_1 : five_words 0 (u * 2 ^ k % 2 ^ 64) (u / 2 ^ t) 0 0 ≡ up (k + 64) u
  up_1 = five_shift _ _ 0 0 ∙ ap (up 64) up_0 ∙ up_up 64 k u

  up_2 : five_words 0 0 (u * 2 ^ k % 2 ^ 64) (u / 2 ^ t) 0 ≡ up (k + 64 + 64) u
  up_2 = five_shift 0 _ _ 0 ∙ ap (up 64) up_1 ∙ up_up 64 (k + 64) u

  up_3 : five_words 0 0 0 (u * 2 ^ k % 2 ^ 64) (u / 2 ^ t) ≡ up (k + 64 + 64 + 64) u
  up_3 = five_shift 0 0 _ _ ∙ ap (up 64) up_2 ∙ up_up 64 (k + 64 + 64) u

-- what a word adds, by shifts
pub spread_bits : (u : ℕ)
    → spread sparse 1 past_word u ≡ five_words 0 (bit_xor (u * 2 ^ 55 % 2 ^ 64) (u * 2 ^ 17 % 2 ^ 64)) (bit_xor (bit_xor (u * 2 ^ 19 % 2 ^ 64) (u / 2 ^ 9)) (u / 2 ^ 47)) (bit_xor (u * 2 ^ 44 % 2 ^ 64) (u / 2 ^ 45)) (u / 2 ^ 20)
unfolding spread mix taps
spread_bits u =
    ap₂ bit_xor (ap₂ bit_xor (ap (bit_xor (up past_word u)) (down_up low_power 147 u)) (down_up mid_power 119 u)) (down_up high_power 81 u)
    ∙ sym (ap₂ bit_xor (ap₂ bit_xor (ap₂ bit_xor (up_3 44 20 u refl) (up_2 19 45 u refl)) (up_1 55 9 u refl)) (up_1 17 47 u refl))
    ∙ ap (λ (x : ℕ). bit_xor (bit_xor x (five_words 0 (u * 2 ^ 55 % 2 ^ 64) (u / 2 ^ 9) 0 0)) (five_words 0 (u * 2 ^ 17 % 2 ^ 64) (u / 2 ^ 47) 0 0))
    (five_xor 0 0 0 (u * 2 ^ 44 % 2 ^ 64) (u / 2 ^ 20) 0 0 (u * 2 ^ 19 % 2 ^ 64) (u / 2 ^ 45) 0)
    ∙ ap (λ (x : ℕ). bit_xor x (five_words 0 (u * 2 ^ 17 % 2 ^ 64) (u / 2 ^ 47) 0 0))
    (five_xor 0 0 (bit_xor 0 (u * 2 ^ 19 % 2 ^ 64)) (bit_xor (u * 2 ^ 44 % 2 ^ 64) (u / 2 ^ 45)) (bit_xor (u / 2 ^ 20) 0) 0 (u * 2 ^ 55 % 2 ^ 64) (u / 2 ^ 9) 0 0)
    ∙ five_xor 0 (bit_xor 0 (u * 2 ^ 55 % 2 ^ 64)) (bit_xor (bit_xor 0 (u * 2 ^ 19 % 2 ^ 64)) (u / 2 ^ 9)) (bit_xor (bit_xor (u * 2 ^ 44 % 2 ^ 64) (u / 2 ^ 45)) 0) (bit_xor (bit_xor (u / 2 ^ 20) 0) 0) 0 (u * 2 ^ 17 % 2 ^ 64) (u / 2 ^ 47) 0 0
    ∙ simp (xor_zero_l, xor_zero_r)

-- the carry a word further
pub next_carry : (a b c d e p q r z : ℕ) → a < 2 ^ 64 → five_words b (bit_xor c p) (bit_xor d q) (bit_xor e r) z ≡ bit_xor (down 64 (five_words a b c d e)) (five_words 0 p q r z)
unfolding num
next_carry a b c d e p q r z l =
    let g : down 64 (five_words a b c d e) ≡ five_words b c d e 0 =
    num_down 64 4 (λ (k : ℕ). get_or (a ∷ b ∷ c ∷ d ∷ e ∷ []) k 0) l ∙ simp (up_zero, xor_zero_r) in
    sym (ap (λ (x : ℕ). bit_xor x (five_words 0 p q r z)) g ∙ five_xor b c d e 0 0 p q r z ∙ simp (xor_zero_l, xor_zero_r))
