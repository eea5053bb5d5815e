-- What the functions of `crc32_fold` tell each other: words as one number, what words that were taken away add to those after them, and
-- the remainder of what is left.
-- Assumes nothing.
use Rattle.std.specs.Prelude.{ℕ, zero, suc, ◌+◌, ◌-◌, ◌*◌, ◌/◌, ◌%◌, ◌^◌, ◌<◌, ◌≡◌, List, [], ◌∷◌, length, get_or, drop}
use Rattle.std.specs.Int.Bits.{bit_xor}
use Rattle.octets.specs.Bytes.{le_value}
use Rattle.crc32.specs.Crc.{shift_bits}

-- x, and what f makes of it for each of the numbers
unfoldable pub taps : (ℕ → ℕ → ℕ) → List ℕ → ℕ → ℕ
taps f [] x = x
taps f (k ∷ ks) x = bit_xor (taps f ks x) (f k x)

-- k places down and up; and up within 64 bits. FIPS 180-4 has the first and the last under names of its own, and sha384_block/specs/Fips
-- keeps these: both are the same by definition, and no law speaks of both.
unfoldable pub down : ℕ → ℕ → ℕ
down k x = x / 2 ^ k

unfoldable pub up : ℕ → ℕ → ℕ
up k x = x * 2 ^ k

unfoldable pub up64 : ℕ → ℕ → ℕ
up64 k x = x * 2 ^ k % 2 ^ 64

-- the powers in the inverse of 1 + 2 * poly modulo x^64, and those in the polynomial, each but 0
abbrev pub inverse : List ℕ
inverse =
    63 ∷ 61 ∷ 60 ∷ 58 ∷ 55 ∷ 54 ∷ 53 ∷ 50 ∷ 48 ∷ 47 ∷ 45 ∷ 44 ∷ 37 ∷ 34 ∷ 32 ∷ 31 ∷ 30 ∷ 29 ∷ 28 ∷ 26 ∷ 25 ∷ 24 ∷ 16 ∷ 12 ∷ 10 ∷ 9 ∷ 6 ∷ []

abbrev pub powers : List ℕ
powers = 26 ∷ 23 ∷ 22 ∷ 16 ∷ 12 ∷ 11 ∷ 10 ∷ 8 ∷ 7 ∷ 5 ∷ 4 ∷ 2 ∷ 1 ∷ []

-- the sparse multiples of the polynomial, x^300 + x^155 + x^117 + x^89 + 1 and x^3006 + x^2866 + x^2215 + 1: their powers but the first and 0
abbrev pub low_power : ℕ
low_power = 89

abbrev pub mid_power : ℕ
mid_power = 117

abbrev pub high_power : ℕ
high_power = 155

abbrev pub sparse : List ℕ
sparse = high_power ∷ mid_power ∷ low_power ∷ []

abbrev pub low_ring_power : ℕ
low_ring_power = 2215

abbrev pub high_ring_power : ℕ
high_ring_power = 2866

abbrev pub sparser : List ℕ
sparser = high_ring_power ∷ low_ring_power ∷ []

-- what a number whose places, of m bits each, were taken away adds to what comes after it, by the powers ks of a multiple
unfoldable pub mix : List ℕ → ℕ → ℕ → ℕ
mix ks m x = taps (λ (k : ℕ). down (m * k)) ks x

-- what one word that was taken away adds to what comes after it, to e bits and one word in all
unfoldable pub spread : List ℕ → ℕ → ℕ → ℕ → ℕ
spread ks m e u = mix ks m (up e u)

-- n words of b bits as one number, lowest first; and those from j on
unfoldable pub num : ℕ → ℕ → (ℕ → ℕ) → ℕ
num b zero f = 0
num b (suc n) f = bit_xor (f 0) (up b (num b n (λ (k : ℕ). f (suc k))))

unfoldable pub num_from : ℕ → ℕ → (ℕ → ℕ) → ℕ → ℕ
num_from b n f j = num b n (λ (k : ℕ). f (j + k))

-- the bytes of a window of v from j on, and the words of a ring
abbrev pub window_size : ℕ
window_size = 300

abbrev pub ring_size : ℕ
ring_size = 3006

-- how many of the 300 bits are past a word
abbrev pub past_word : ℕ
past_word = window_size - 64

abbrev pub window : List ℕ → ℕ → ℕ
window v j = num_from 8 window_size (λ (k : ℕ). get_or v k 0) j

abbrev pub ring : List ℕ → ℕ → ℕ
ring v j = num_from 32 ring_size (λ (k : ℕ). get_or v (k % ring_size) 0) j

-- the lowest word of what the words f from j on add
abbrev pub lowest : List ℕ → (ℕ → ℕ) → ℕ → ℕ
lowest [] f j = f j
lowest (k ∷ ks) f j = bit_xor (lowest ks f j) (f (j + k))

abbrev pub added : List ℕ → ℕ → ℕ
added v j = lowest sparse (λ (k : ℕ). get_or v k 0) j

-- the remainder of s from i on, with x added to it
unfoldable pub remainder_from : List ℕ → ℕ → ℕ → ℕ
remainder_from s i x = shift_bits (8 * (length s - i)) (bit_xor x (le_value (drop i s)))

-- n words of b bits
abbrev pub Words : ℕ → ℕ → List ℕ → Type 0
Words b n v = (length v ≡ n) × ((k : ℕ) → get_or v k 0 < 2 ^ b)
