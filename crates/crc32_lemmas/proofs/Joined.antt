-- Words as one number: its lowest word, the number without it, with one more at its top, added to another.
-- Assumes nothing.
use Prim.Native.Nat.{ℕ, zero, suc, ◌+◌, ◌-◌, ◌*◌, ◌/◌, ◌%◌, ◌^◌, ◌<◌, ◌≤◌}
use mathlib.Core.Path.{◌≡◌, refl, sym, ap, ap₂, ◌∙◌}
use native.Mathlib.Omega.{arith}
use native.Mathlib.Nat.{zero-div, zero-mul, mul-one, mod-eq_of_lt, mod-lt, div-eq_of_lt, suc-add, mul_assoc, zero-add, mul-mod_left, mul-zero}
use lib.Pow.{shl-shr, shr-shr, pow-add, pow_pos, split}
use lib.Bits.{bit_xor, xor_shr, xor_mod, xor_zero_l, xor_zero_r, xor_comm, xor_shifted}
use Rattle.crc32_lemmas.specs.Fold.{down, up, num}
use Rattle.crc32.proofs.Xor.{xor_assoc, xor_swap}
use Rattle.crc32_lemmas.proofs.Steps.{up_add}

pub up_up : (j k x : ℕ) → up j (up k x) ≡ up (k + j) x
unfolding up
up_up j k x = mul_assoc x (2 ^ k) (2 ^ j) ∙ ap (λ (n : ℕ). x * n) (sym (pow-add 2 k j))

pub up_zero : (k : ℕ) → up k 0 ≡ 0
unfolding up
up_zero k = zero-mul (2 ^ k)

up_low : (b x : ℕ) → up b x % 2 ^ b ≡ 0
unfolding up
up_low b x = mul-mod_left x (2 ^ b)

up_down_word : (b x : ℕ) → up b x / 2 ^ b ≡ x
unfolding up
up_down_word b x = shl-shr x b

up_none : (x : ℕ) → up 0 x ≡ x
unfolding up
up_none x = mul-one x

down_none : (x : ℕ) → down 0 x ≡ x
unfolding down
down_none x = omega arith

pub down_zero : (k : ℕ) → down k 0 ≡ 0
unfolding down
down_zero k = zero-div (2 ^ k)

pub down_places : (m j k n x : ℕ) → j + k ≡ n → down (m * k) (down (m * j) x) ≡ down (m * n) x
unfolding down
down_places m j k n x h =
    let e : m * j + m * k ≡ m * (j + k) = omega arith in
    shr-shr x (m * j) (m * k) ∙ ap (λ (i : ℕ). x / 2 ^ i) (e ∙ ap (λ (i : ℕ). m * i) h)

-- a word k places up is two words
pub two_words : (k t u : ℕ) → k + t ≡ 64 → bit_xor (u * 2 ^ k % 2 ^ 64) (up 64 (u / 2 ^ t)) ≡ up k u
unfolding up
two_words k t u e =
    let x : ℕ = u * 2 ^ k in
    let hi : x / 2 ^ 64 ≡ u / 2 ^ t =
    ap (λ (n : ℕ). x / 2 ^ n) (sym e) ∙ sym (shr-shr x k t) ∙ ap (λ (y : ℕ). y / 2 ^ t) (shl-shr u k) in
    ap (λ (y : ℕ). bit_xor (x % 2 ^ 64) (y * 2 ^ 64)) (sym hi)
    ∙ xor_comm (x % 2 ^ 64) (x / 2 ^ 64 * 2 ^ 64) ∙ xor_shifted (x / 2 ^ 64) 64 (x % 2 ^ 64) (mod-lt x (pow_pos 64)) ∙ split x 64

-- ---- words of b bits
module _ (b : ℕ) where
  pub num_ext : (n : ℕ) (f g : ℕ → ℕ) → ((k : ℕ) → k < n → f k ≡ g k) → num b n f ≡ num b n g
  unfolding num
  num_ext zero f g h = refl
  num_ext (suc n) f g h = ap₂ (λ (x y : ℕ). bit_xor x (up b y)) (h 0 (omega arith)) (num_ext n (λ (k : ℕ). f (suc k)) (λ (k : ℕ). g (suc k)) (λ k l. h (suc k) (omega arith)))

  pub num_zero : (n : ℕ) (f : ℕ → ℕ) → ((k : ℕ) → k < n → f k ≡ 0) → num b n f ≡ 0
  unfolding num
  num_zero zero f h = refl
  num_zero (suc n) f h = ap₂ (λ (x y : ℕ). bit_xor x (up b y)) (h 0 (omega arith)) (num_zero n (λ (k : ℕ). f (suc k)) (λ k l. h (suc k) (omega arith))) ∙ xor_zero_l (up b 0) ∙ up_zero b

  pub num_xor : (n : ℕ) (f g : ℕ → ℕ) → bit_xor (num b n f) (num b n g) ≡ num b n (λ (k : ℕ). bit_xor (f k) (g k))
  unfolding num
  num_xor zero f g = refl
  num_xor (suc n) f g =
      let p : ℕ = num b n (λ (k : ℕ). f (suc k)) in
      let q : ℕ = num b n (λ (k : ℕ). g (suc k)) in
      xor_swap (f 0) (up b p) (g 0) (up b q)
      ∙ ap (bit_xor (bit_xor (f 0) (g 0))) (sym (up_add b p q) ∙ ap (up b) (num_xor n (λ (k : ℕ). f (suc k)) (λ (k : ℕ). g (suc k))))

  pub num_down : (n : ℕ) (f : ℕ → ℕ) → f 0 < 2 ^ b → down b (num b (suc n) f) ≡ num b n (λ (k : ℕ). f (suc k))
  unfolding num down
  num_down n f h =
      let r : ℕ = num b n (λ (k : ℕ). f (suc k)) in
      xor_shr (f 0) (up b r) b ∙ ap₂ bit_xor (div-eq_of_lt h) (up_down_word b r) ∙ xor_zero_l r

  pub num_low : (n : ℕ) (f : ℕ → ℕ) → f 0 < 2 ^ b → num b (suc n) f % 2 ^ b ≡ f 0
  unfolding num
  num_low n f h =
      let r : ℕ = num b n (λ (k : ℕ). f (suc k)) in
      xor_mod (f 0) (up b r) b ∙ ap₂ bit_xor (mod-eq_of_lt h) (up_low b r) ∙ xor_zero_r (f 0)

  pub num_top : (n : ℕ) (f : ℕ → ℕ) → num b (suc n) f ≡ bit_xor (num b n f) (up (b * n) (f n))
  unfolding num
  num_top zero f = ap (bit_xor (f 0)) (up_zero b) ∙ xor_zero_r (f 0) ∙ sym (xor_zero_l (up (b * 0) (f 0)) ∙ ap (λ (m : ℕ). up m (f 0)) (mul-zero b) ∙ up_none (f 0))
  num_top (suc n) f =
      let g : ℕ → ℕ = λ (k : ℕ). f (suc k) in
      let e : b * n + b ≡ b * suc n = omega arith in
      ap (λ (x : ℕ). bit_xor (f 0) (up b x)) (num_top n g)
      ∙ ap (bit_xor (f 0)) (up_add b (num b n g) (up (b * n) (g n)) ∙ ap (bit_xor (up b (num b n g))) (up_up b (b * n) (g n) ∙ ap (λ (m : ℕ). up m (g n)) e))
      ∙ sym (xor_assoc (f 0) (up b (num b n g)) (up (b * suc n) (g n)))

  further : (k x : ℕ) → down (b * suc k) x ≡ down (b * k) (down b x)
  unfolding down
  further k x = let e : b * suc k ≡ b + b * k = omega arith in ap (λ (m : ℕ). x / 2 ^ m) e ∙ sym (shr-shr x b (b * k))

  -- the words from k on
  pub num_drop : (k n : ℕ) (f : ℕ → ℕ) → ((i : ℕ) → f i < 2 ^ b) → down (b * k) (num b (k + n) f) ≡ num b n (λ (i : ℕ). f (k + i))
  num_drop zero n f h =
      ap (λ (m : ℕ). down m (num b (zero + n) f)) (mul-zero b) ∙ down_none (num b (zero + n) f)
      ∙ ap (λ (m : ℕ). num b m f) (zero-add n)
      ∙ num_ext n f (λ (i : ℕ). f (zero + i)) (λ i l. ap f (sym (zero-add i)))
  num_drop (suc k) n f h =
      ap (λ (m : ℕ). down (b * suc k) (num b m f)) (suc-add k n)
      ∙ further k (num b (suc (k + n)) f) ∙ ap (down (b * k)) (num_down (k + n) f (h 0))
      ∙ num_drop k n (λ (i : ℕ). f (suc i)) (λ i. h (suc i))
      ∙ num_ext n (λ (i : ℕ). f (suc (k + i))) (λ (i : ℕ). f (suc k + i)) (λ i l. ap f (sym (suc-add k i)))

  -- past the last word
  pub num_past : (n i : ℕ) (f : ℕ → ℕ) → ((k : ℕ) → f k < 2 ^ b) → n ≤ i → down (b * i) (num b n f) ≡ 0
  unfolding num
  num_past n i f h l =
      let d : ℕ = i - n in
      let z : n ≡ n + 0 = omega arith in
      sym (down_places b n d i (num b n f) (omega arith))
      ∙ ap (down (b * d)) (ap (λ (m : ℕ). down (b * n) (num b m f)) z ∙ num_drop n 0 f h) ∙ down_zero (b * d)
