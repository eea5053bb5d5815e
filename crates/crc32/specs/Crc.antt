-- CRC-32 of IEEE 802.3, bit by bit: reflected, start and final inversion all ones.
-- Assumes nothing.
use Rattle.std.specs.Prelude.{ℕ, zero, suc, ◌*◌, ◌/◌, ◌%◌, ◌≡◌, refl, List, [], ◌∷◌}
use Rattle.std.specs.Int.Bits.{bit_xor}

-- the polynomial, lowest power in the highest bit
abbrev pub poly : ℕ
poly = 0xEDB88320

-- one bit: divide by the first power, and take the polynomial off where a remainder falls out
unfoldable pub shift_bit : ℕ → ℕ
shift_bit c = bit_xor (c / 2) (c % 2 * poly)

unfoldable pub shift_bits : ℕ → ℕ → ℕ
shift_bits zero c = c
shift_bits (suc k) c = shift_bits k (shift_bit c)

-- the remainder after the bytes, from the remainder before them
unfoldable pub crc_from : ℕ → List ℕ → ℕ
crc_from c [] = c
crc_from c (b ∷ bs) = crc_from (shift_bits 8 (bit_xor c b)) bs

-- the remainder to start from, and what the last remainder is inverted by
abbrev pub ones32 : ℕ
ones32 = 0xFFFFFFFF

unfoldable pub crc32 : List ℕ → ℕ
crc32 bs = bit_xor ones32 (crc_from ones32 bs)

-- the published check value, of the nine ASCII bytes 123456789
pub check_value : crc32 (0x31 ∷ 0x32 ∷ 0x33 ∷ 0x34 ∷ 0x35 ∷ 0x36 ∷ 0x37 ∷ 0x38 ∷ 0x39 ∷ []) ≡ 0xCBF43926
unfolding crc32 crc_from shift_bits shift_bit
check_value = refl
