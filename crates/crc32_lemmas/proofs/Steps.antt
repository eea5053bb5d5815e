-- 64 bit steps at once, without a table: both sides keep exclusive or, and agree at each power of two, which is computed.
-- Assumes nothing.
use Prim.Native.Nat.{ℕ, zero, suc, ◌+◌, ◌*◌, ◌/◌, ◌%◌, ◌^◌, ◌<◌}
use mathlib.Core.Path.{◌≡◌, refl, sym, ap, ap₂, ◌∙◌}
use mathlib.Core.List.{List}
use native.Mathlib.Omega.{arith}
use native.Mathlib.Nat.{mod-lt, add-zero, zero-mul, one-mul}
use lib.Arith.{lt-one}
use lib.Pow.{pow_pos, split, shr_lt}
use lib.Bits.{bit_xor, xor_mod, xor_block, xor_shifted}
use Rattle.crc32.specs.Crc.{shift_bit, shift_bits}
use Rattle.crc32_lemmas.specs.Fold.{taps, down, up, up64, inverse, powers}
use Rattle.crc32.proofs.Xor.{too_big}
use Rattle.crc32.proofs.Linear.{shift_bits_linear, shift_bits_high, shift_bits_add, shift_bits_split}
use Rattle.crc32_lemmas.proofs.Sparse.{Add, add_taps, zero_of, down_add}
use Rattle.octets.proofs.Lists.{values_below, each_below}

pub up_add : (k : ℕ) → Add (up k)
unfolding up
up_add k a b =
    sym (ap₂ bit_xor (sym (add-zero (a * 2 ^ k))) (sym (add-zero (b * 2 ^ k))) ∙ xor_block k a b 0 0 (pow_pos k) (pow_pos k) ∙ add-zero (bit_xor a b * 2 ^ k))

up64_add : (k : ℕ) → Add (up64 k)
unfolding up64 up
up64_add k a b = ap (λ (x : ℕ). x % 2 ^ 64) (up_add k a b) ∙ xor_mod (a * 2 ^ k) (b * 2 ^ k) 64

-- ---- maps that agree at the powers of two agree
module _ (f g : ℕ → ℕ) (af : Add f) (ag : Add g) where
  at_bit : (n b : ℕ) → b < 2 → f (2 ^ n) ≡ g (2 ^ n) → f (b * 2 ^ n) ≡ g (b * 2 ^ n)
  at_bit n zero l e = ap f (zero-mul (2 ^ n)) ∙ zero_of f af ∙ sym (ap g (zero-mul (2 ^ n)) ∙ zero_of g ag)
  at_bit n (suc zero) l e = ap f (one-mul (2 ^ n)) ∙ e ∙ sym (ap g (one-mul (2 ^ n)))
  at_bit n (suc (suc b)) l e = absurd (too_big l)

  same_at_powers : (n : ℕ) → ((i : ℕ) → i < n → f (2 ^ i) ≡ g (2 ^ i)) → (x : ℕ) → x < 2 ^ n → f x ≡ g x
  same_at_powers zero h x l = let e : x ≡ 0 = lt-one l in rw e (zero_of f af ∙ sym (zero_of g ag))
  same_at_powers (suc n) h x l =
      let hi : ℕ = x / 2 ^ n in
      let lo : ℕ = x % 2 ^ n in
      let q : 1 + n ≡ suc n = omega arith in
      let b : hi < 2 = shr_lt 1 n (rw q l) in
      let s : bit_xor (hi * 2 ^ n) lo ≡ x = xor_shifted hi n lo (mod-lt x (pow_pos n)) ∙ split x n in
      ap f (sym s) ∙ af (hi * 2 ^ n) lo
      ∙ ap₂ bit_xor (at_bit n hi b (h n (omega arith))) (same_at_powers n (λ i m. h i (omega arith)) lo (mod-lt x (pow_pos n)))
      ∙ sym (ap g (sym s) ∙ ag (hi * 2 ^ n) lo)

-- ---- 64 steps
abbrev by_quotient : ℕ → ℕ
by_quotient x = taps down powers (down 32 (taps up64 inverse x))

by_quotient_add : Add by_quotient
by_quotient_add a b =
    ap (λ (y : ℕ). taps down powers (down 32 y)) (add_taps up64 up64_add inverse a b)
    ∙ ap (taps down powers) (down_add 32 (taps up64 inverse a) (taps up64 inverse b))
    ∙ add_taps down down_add powers (down 32 (taps up64 inverse a)) (down 32 (taps up64 inverse b))

abbrev at_powers : (ℕ → ℕ) → List ℕ
at_powers f = values_below 64 (λ i. f (2 ^ i))

computed : at_powers by_quotient ≡ at_powers (shift_bits 64)
unfolding taps down up64 shift_bits shift_bit
computed = refl

pub steps_64 : (x : ℕ) → x < 2 ^ 64 → taps down powers (down 32 (taps up64 inverse x)) ≡ shift_bits 64 x
steps_64 =
    same_at_powers by_quotient (shift_bits 64) by_quotient_add (shift_bits_linear 64) 64
    (each_below 0 (λ j. by_quotient (2 ^ j)) (λ j. shift_bits 64 (2 ^ j)) 64 computed)

-- ---- 32 steps and 8 steps by 64
pub steps_32 : (x : ℕ) → shift_bits 64 (x * 2 ^ 32) ≡ shift_bits 32 x
steps_32 x = sym (shift_bits_add 32 32 (x * 2 ^ 32)) ∙ ap (shift_bits 32) (shift_bits_high 32 x)

pub steps_8 : (x : ℕ) → bit_xor (x / 2 ^ 8) (shift_bits 32 (x * 2 ^ 24 % 2 ^ 32)) ≡ shift_bits 8 x
steps_8 x =
    let e : x * 2 ^ 24 % 2 ^ 32 ≡ x % 2 ^ 8 * 2 ^ 24 = omega arith in
    ap (bit_xor (x / 2 ^ 8))
    (ap (shift_bits 32) e ∙ sym (shift_bits_add 24 8 (x % 2 ^ 8 * 2 ^ 24)) ∙ ap (shift_bits 8) (shift_bits_high 24 (x % 2 ^ 8)))
    ∙ sym (shift_bits_split 8 x)
