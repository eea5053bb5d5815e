-- The bit step of the checksum keeps exclusive or, so steps go by parts of a number, and the checksum by parts of a byte string.
-- Assumes nothing.
use Prim.Native.Nat.{ℕ, zero, suc, ◌+◌, ◌*◌, ◌/◌, ◌%◌, ◌^◌, ◌<◌}
use mathlib.Core.Path.{◌≡◌, refl, sym, ap, ap₂, ◌∙◌}
use mathlib.Core.List.{List, [], ◌∷◌, ◌++◌}
use native.Mathlib.Omega.{arith}
use native.Mathlib.Nat.{zero-add, suc-add, mod-lt, mul-one}
use lib.Pow.{pow_pos, split}
use lib.Bits.{bit_xor, differ, xor_zero_r, xor_comm, xor_shifted, shifted_half, shifted_even}
use lib.ListN.{length}
use Rattle.octets.specs.Bytes.{AreBytes, le_value}
use Rattle.octets.proofs.Lists.{taken_append}
use Rattle.crc32.specs.Crc.{poly, shift_bit, shift_bits, crc_from}
use Rattle.crc32.proofs.Xor.{xor_assoc, xor_swap, xor_half, xor_odd, bit_lt, too_big}

times_poly : (x y : ℕ) → x < 2 → y < 2 → differ x y * poly ≡ bit_xor (x * poly) (y * poly)
times_poly zero zero h g = refl
times_poly zero (suc zero) h g = refl
times_poly zero (suc (suc y)) h g = absurd (too_big g)
times_poly (suc zero) zero h g = refl
times_poly (suc zero) (suc zero) h g = refl
times_poly (suc zero) (suc (suc y)) h g = absurd (too_big g)
times_poly (suc (suc x)) y h g = absurd (too_big h)

pub shift_bit_linear : (a b : ℕ) → shift_bit (bit_xor a b) ≡ bit_xor (shift_bit a) (shift_bit b)
unfolding shift_bit
shift_bit_linear a b =
    ap₂ bit_xor (xor_half a b) (ap (λ (x : ℕ). x * poly) (xor_odd a b) ∙ times_poly (a % 2) (b % 2) (bit_lt a) (bit_lt b))
    ∙ xor_swap (a / 2) (b / 2) (a % 2 * poly) (b % 2 * poly)

pub shift_bits_linear : (k a b : ℕ) → shift_bits k (bit_xor a b) ≡ bit_xor (shift_bits k a) (shift_bits k b)
unfolding shift_bits
shift_bits_linear zero a b = refl
shift_bits_linear (suc k) a b = ap (shift_bits k) (shift_bit_linear a b) ∙ shift_bits_linear k (shift_bit a) (shift_bit b)

-- what stands above k bits comes down by k places
pub shift_bits_high : (k a : ℕ) → shift_bits k (a * 2 ^ k) ≡ a
unfolding shift_bits shift_bit
shift_bits_high zero a = mul-one a
shift_bits_high (suc k) a =
    ap (shift_bits k) (ap₂ (λ (x y : ℕ). bit_xor x (y * poly)) (shifted_half a k) (shifted_even a k) ∙ xor_zero_r (a * 2 ^ k))
    ∙ shift_bits_high k a

-- k steps: the bits above come down, and the k low bits are looked up
pub shift_bits_split : (k c : ℕ) → shift_bits k c ≡ bit_xor (c / 2 ^ k) (shift_bits k (c % 2 ^ k))
shift_bits_split k c =
    ap (shift_bits k) (sym (xor_shifted (c / 2 ^ k) k (c % 2 ^ k) (mod-lt c (pow_pos k)) ∙ split c k))
    ∙ shift_bits_linear k (c / 2 ^ k * 2 ^ k) (c % 2 ^ k)
    ∙ ap (λ (x : ℕ). bit_xor x (shift_bits k (c % 2 ^ k))) (shift_bits_high k (c / 2 ^ k))

pub crc_from_append : (c : ℕ) (s t : List ℕ) → crc_from c (s ++ t) ≡ crc_from (crc_from c s) t
unfolding crc_from
crc_from_append c s t = taken_append crc_from (λ a. refl) (λ a b l. refl) c s t

pub shift_bits_add : (j k c : ℕ) → shift_bits k (shift_bits j c) ≡ shift_bits (j + k) c
unfolding shift_bits
shift_bits_add zero k c = ap (λ (n : ℕ). shift_bits n c) (sym (zero-add k))
shift_bits_add (suc j) k c = shift_bits_add j k (shift_bit c) ∙ ap (λ (n : ℕ). shift_bits n c) (sym (suc-add j k))

-- bytes taken in: eight steps for each, on the remainder with their little-endian value
pub crc_from_value : (c : ℕ) (s : List ℕ) → AreBytes s → crc_from c s ≡ shift_bits (8 * length s) (bit_xor c (le_value s))
unfolding crc_from shift_bits
crc_from_value c [] w = sym (xor_zero_r c)
crc_from_value c (x ∷ xs) w =
    let v : ℕ = le_value xs in
    let e : bit_xor (bit_xor c x) (v * 2 ^ 8) ≡ bit_xor c (x + 256 * v) =
    xor_assoc c x (v * 2 ^ 8) ∙ ap (bit_xor c) (xor_comm x (v * 2 ^ 8) ∙ xor_shifted v 8 x w.0 ∙ omega arith) in
    let n : 8 + 8 * length xs ≡ 8 * suc (length xs) = omega arith in
    crc_from_value (shift_bits 8 (bit_xor c x)) xs w.1
    ∙ ap (λ (y : ℕ). shift_bits (8 * length xs) (bit_xor (shift_bits 8 (bit_xor c x)) y)) (sym (shift_bits_high 8 v))
    ∙ ap (shift_bits (8 * length xs)) (sym (shift_bits_linear 8 (bit_xor c x) (v * 2 ^ 8)) ∙ ap (shift_bits 8) e)
    ∙ shift_bits_add 8 (8 * length xs) (bit_xor c (x + 256 * v))
    ∙ ap (λ (k : ℕ). shift_bits k (bit_xor c (x + 256 * v))) n
