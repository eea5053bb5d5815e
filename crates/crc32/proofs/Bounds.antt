-- Remainders and checksums fit 32 bits.
-- Assumes nothing.
use Prim.Native.Nat.{ℕ, zero, suc, ◌*◌, ◌/◌, ◌%◌, ◌^◌, ◌<◌}
use mathlib.Core.List.{List, [], ◌∷◌}
use native.Mathlib.Omega.{arith}
use lib.Bits.{bit_xor, xor_lt}
use Rattle.octets.specs.Bytes.{AreBytes}
use Rattle.crc32.specs.Crc.{poly, shift_bit, shift_bits, crc_from, crc32, ones32}
use Rattle.crc32.proofs.Xor.{bit_lt}

poly_times_lt : (x : ℕ) → x < 2 → x * poly < 2 ^ 32
poly_times_lt x h = omega arith

pub shift_bit_lt : (c : ℕ) → c < 2 ^ 32 → shift_bit c < 2 ^ 32
unfolding shift_bit
shift_bit_lt c h = xor_lt 32 (c / 2) (c % 2 * poly) (omega arith) (poly_times_lt (c % 2) (bit_lt c))

pub shift_bits_lt : (k c : ℕ) → c < 2 ^ 32 → shift_bits k c < 2 ^ 32
unfolding shift_bits
shift_bits_lt zero c h = h
shift_bits_lt (suc k) c h = shift_bits_lt k (shift_bit c) (shift_bit_lt c h)

pub crc_from_lt : (c : ℕ) (s : List ℕ) → AreBytes s → c < 2 ^ 32 → crc_from c s < 2 ^ 32
unfolding crc_from
crc_from_lt c [] w h = h
crc_from_lt c (x ∷ xs) w h =
    let hx = w.0 in
    crc_from_lt (shift_bits 8 (bit_xor c x)) xs w.1 (shift_bits_lt 8 (bit_xor c x) (xor_lt 32 c x h (omega arith)))

pub crc32_lt : (s : List ℕ) → AreBytes s → crc32 s < 2 ^ 32
unfolding crc32
crc32_lt s w = xor_lt 32 ones32 (crc_from ones32 s) (omega arith) (crc_from_lt ones32 s w (omega arith))
