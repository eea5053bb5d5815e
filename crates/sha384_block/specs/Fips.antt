-- SHA-384 as FIPS 180-4 defines it, in the order and by the section numbers of the standard. A word is a number below 2 ^ 64, a byte
-- string a list of numbers below 256; sums are modulo 2 ^ 64.
-- Assumes nothing.
use Rattle.std.specs.Prelude.{ℕ, zero, suc, ◌+◌, ◌-◌, ◌*◌, ◌/◌, ◌%◌, ◌^◌, List, [], ◌∷◌, ◌++◌, length, take, drop, replicate, bit_and, bit_or, bit_xor, slice_index}
use Rattle.octets.specs.Bytes.{be_bytes, be_bytes_each, field}
use Rattle.sha384_block.specs.declared.Vars.{Vars}

-- ---- section 1, figure 1: a word is of 64 bits, a block of 1024 and a digest of 384, here counted in bytes

abbrev pub word_size : ℕ
word_size = 8

abbrev pub block_size : ℕ
block_size = 128

abbrev pub digest_size : ℕ
digest_size = 48

-- a digest's words
abbrev pub digest_words : ℕ
digest_words = digest_size / word_size

-- ---- sections 2.2.2 and 3.2: operations on words

-- x shifted right by n, shifted left by n, and rotated right by n
abbrev pub shr : ℕ → ℕ → ℕ
shr n x = x / 2 ^ n

abbrev pub shl : ℕ → ℕ → ℕ
shl n x = x * 2 ^ n % 2 ^ 64

abbrev pub rotr : ℕ → ℕ → ℕ
rotr n x = bit_or (shr n x) (shl (64 - n) x)

-- every bit of x the other way round
abbrev pub complement : ℕ → ℕ
complement x = 2 ^ 64 - 1 - x

-- ---- section 4.1.3: the six functions

unfoldable pub ch : ℕ → ℕ → ℕ → ℕ
ch x y z = bit_xor (bit_and x y) (bit_and (complement x) z)

unfoldable pub maj : ℕ → ℕ → ℕ → ℕ
maj x y z = bit_xor (bit_xor (bit_and x y) (bit_and x z)) (bit_and y z)

unfoldable pub big_sigma0 : ℕ → ℕ
big_sigma0 x = bit_xor (bit_xor (rotr 28 x) (rotr 34 x)) (rotr 39 x)

unfoldable pub big_sigma1 : ℕ → ℕ
big_sigma1 x = bit_xor (bit_xor (rotr 14 x) (rotr 18 x)) (rotr 41 x)

unfoldable pub small_sigma0 : ℕ → ℕ
small_sigma0 x = bit_xor (bit_xor (rotr 1 x) (rotr 8 x)) (shr 7 x)

unfoldable pub small_sigma1 : ℕ → ℕ
small_sigma1 x = bit_xor (bit_xor (rotr 19 x) (rotr 61 x)) (shr 6 x)

-- ---- section 4.2.3: the eighty constants

unfoldable pub round_constants : List ℕ
round_constants =
    0x428a2f98d728ae22 ∷ 0x7137449123ef65cd ∷ 0xb5c0fbcfec4d3b2f ∷ 0xe9b5dba58189dbbc ∷
    0x3956c25bf348b538 ∷ 0x59f111f1b605d019 ∷ 0x923f82a4af194f9b ∷ 0xab1c5ed5da6d8118 ∷
    0xd807aa98a3030242 ∷ 0x12835b0145706fbe ∷ 0x243185be4ee4b28c ∷ 0x550c7dc3d5ffb4e2 ∷
    0x72be5d74f27b896f ∷ 0x80deb1fe3b1696b1 ∷ 0x9bdc06a725c71235 ∷ 0xc19bf174cf692694 ∷
    0xe49b69c19ef14ad2 ∷ 0xefbe4786384f25e3 ∷ 0x0fc19dc68b8cd5b5 ∷ 0x240ca1cc77ac9c65 ∷
    0x2de92c6f592b0275 ∷ 0x4a7484aa6ea6e483 ∷ 0x5cb0a9dcbd41fbd4 ∷ 0x76f988da831153b5 ∷
    0x983e5152ee66dfab ∷ 0xa831c66d2db43210 ∷ 0xb00327c898fb213f ∷ 0xbf597fc7beef0ee4 ∷
    0xc6e00bf33da88fc2 ∷ 0xd5a79147930aa725 ∷ 0x06ca6351e003826f ∷ 0x142929670a0e6e70 ∷
    0x27b70a8546d22ffc ∷ 0x2e1b21385c26c926 ∷ 0x4d2c6dfc5ac42aed ∷ 0x53380d139d95b3df ∷
    0x650a73548baf63de ∷ 0x766a0abb3c77b2a8 ∷ 0x81c2c92e47edaee6 ∷ 0x92722c851482353b ∷
    0xa2bfe8a14cf10364 ∷ 0xa81a664bbc423001 ∷ 0xc24b8b70d0f89791 ∷ 0xc76c51a30654be30 ∷
    0xd192e819d6ef5218 ∷ 0xd69906245565a910 ∷ 0xf40e35855771202a ∷ 0x106aa07032bbd1b8 ∷
    0x19a4c116b8d2d0c8 ∷ 0x1e376c085141ab53 ∷ 0x2748774cdf8eeb99 ∷ 0x34b0bcb5e19b48a8 ∷
    0x391c0cb3c5c95a63 ∷ 0x4ed8aa4ae3418acb ∷ 0x5b9cca4f7763e373 ∷ 0x682e6ff3d6b2b8a3 ∷
    0x748f82ee5defb2fc ∷ 0x78a5636f43172f60 ∷ 0x84c87814a1f0ab72 ∷ 0x8cc702081a6439ec ∷
    0x90befffa23631e28 ∷ 0xa4506cebde82bde9 ∷ 0xbef9a3f7b2c67915 ∷ 0xc67178f2e372532b ∷
    0xca273eceea26619c ∷ 0xd186b8c721c0c207 ∷ 0xeada7dd6cde0eb1e ∷ 0xf57d4f7fee6ed178 ∷
    0x06f067aa72176fba ∷ 0x0a637dc5a2c898a6 ∷ 0x113f9804bef90dae ∷ 0x1b710b35131c471b ∷
    0x28db77f523047d84 ∷ 0x32caab7b40c72493 ∷ 0x3c9ebe0a15c9bebc ∷ 0x431d67c49c100d4c ∷
    0x4cc5d4becb3e42b6 ∷ 0x597f299cfc657e2a ∷ 0x5fcb6fab3ad6faec ∷ 0x6c44198c4a475817 ∷ []

-- ---- section 5.1.2: the padding of a message of n bytes: a one bit, zero bits, and the length in bits as a number of 128 bits

-- the bytes of that number; the least of a padding, a byte with the one bit and that number, and the most, nearly a block of zeros more
abbrev pub bit_count_size : ℕ
bit_count_size = 16

abbrev pub least_padding : ℕ
least_padding = 1 + bit_count_size

abbrev pub most_padding : ℕ
most_padding = block_size - 1 + least_padding

-- how many zero bytes make the whole a multiple of a block
abbrev pub zeros_for : ℕ → ℕ
zeros_for n = (2 * block_size - least_padding - n % block_size) % block_size

unfoldable pub padding : ℕ → List ℕ
padding n = 0x80 ∷ (replicate (zeros_for n) 0 ++ be_bytes bit_count_size (8 * n))

-- ---- section 5.3.4: the initial hash value

unfoldable pub initial_hash : List ℕ
initial_hash =
    0xcbbb9d5dc1059ed8 ∷ 0x629a292a367cd507 ∷ 0x9159015a3070dd17 ∷ 0x152fecd8f70e5939 ∷
    0x67332667ffc00b31 ∷ 0x8eb44a8768581511 ∷ 0xdb0c2e0d64f98fa7 ∷ 0x47b5481dbefa4fa4 ∷ []

-- ---- section 6.4.2, step 1: the message schedule of a block

-- the next word after those that there are: of a list of t words, the word W t
unfoldable pub next_word : List ℕ → ℕ
next_word w =
    let t = length w in
    (small_sigma1 (slice_index w (t - 2)) + slice_index w (t - 7) + small_sigma0 (slice_index w (t - 15)) + slice_index w (t - 16)) % 2 ^ 64

-- n words more
unfoldable pub extend : ℕ → List ℕ → List ℕ
extend zero w = w
extend (suc n) w = extend n (w ++ (next_word w ∷ []))

-- n words of a byte string from its word i on
unfoldable pub words_from : ℕ → ℕ → List ℕ → List ℕ
words_from zero i s = []
words_from (suc n) i s = field word_size (word_size * i) s ∷ words_from n (i + 1) s

-- the sixteen words of the block, and sixty-four more
unfoldable pub schedule : List ℕ → List ℕ
schedule block = extend 64 (words_from 16 0 block)

-- ---- section 6.4.2, steps 2 to 4: eighty rounds on the eight working variables a to h

unfoldable pub temp1 : ℕ → ℕ → Vars → ℕ
temp1 k w v = (v.h + big_sigma1 v.e + ch v.e v.f v.g + k + w) % 2 ^ 64

unfoldable pub temp2 : Vars → ℕ
temp2 v = (big_sigma0 v.a + maj v.a v.b v.c) % 2 ^ 64

-- a round by a constant and a word of the schedule
unfoldable pub round : ℕ → ℕ → Vars → Vars
round k w v =
    let t1 = temp1 k w v in
    let t2 = temp2 v in
    record {
      a = (t1 + t2) % 2 ^ 64;
      b = v.a;
      c = v.b;
      d = v.c;
      e = (v.d + t1) % 2 ^ 64;
      f = v.e;
      g = v.f;
      h = v.g;
    }

-- n rounds from round t on, by constants and a schedule
unfoldable pub rounds : ℕ → ℕ → List ℕ → List ℕ → Vars → Vars
rounds zero t ks ws v = v
rounds (suc n) t ks ws v = rounds n (t + 1) ks ws (round (slice_index ks t) (slice_index ws t) v)

-- the variables from a hash value of eight words
abbrev pub vars_of : List ℕ → Vars
vars_of x =
    record {
      a = slice_index x 0;
      b = slice_index x 1;
      c = slice_index x 2;
      d = slice_index x 3;
      e = slice_index x 4;
      f = slice_index x 5;
      g = slice_index x 6;
      h = slice_index x 7;
    }

-- the next hash value: the variables added to the one before
abbrev pub next_hash : List ℕ → Vars → List ℕ
next_hash x v =
    (v.a + slice_index x 0) % 2 ^ 64 ∷ (v.b + slice_index x 1) % 2 ^ 64 ∷ (v.c + slice_index x 2) % 2 ^ 64 ∷ (v.d + slice_index x 3) % 2 ^ 64
    ∷ (v.e + slice_index x 4) % 2 ^ 64 ∷ (v.f + slice_index x 5) % 2 ^ 64 ∷ (v.g + slice_index x 6) % 2 ^ 64 ∷ (v.h + slice_index x 7) % 2 ^ 64 ∷ []

-- the hash value after a block, by given round constants, and by the standard's
unfoldable pub compress_by : List ℕ → List ℕ → List ℕ → List ℕ
compress_by ks x block = next_hash x (rounds 80 0 ks (schedule block) (vars_of x))

abbrev pub compress : List ℕ → List ℕ → List ℕ
compress x block = compress_by round_constants x block

-- ---- section 6.5: the digest of a message

-- the hash value after n blocks
unfoldable pub hash_blocks : ℕ → List ℕ → List ℕ → List ℕ
hash_blocks zero x s = x
hash_blocks (suc n) x s = hash_blocks n (compress x (take block_size s)) (drop block_size s)

-- the first 384 bits of a hash value, whose words are bytes one after the other
unfoldable pub digest_of : List ℕ → List ℕ
digest_of x = take digest_size (be_bytes_each word_size x)

unfoldable pub sha384 : List ℕ → List ℕ
sha384 s =
    let padded = s ++ padding (length s) in
    digest_of (hash_blocks (length padded / block_size) initial_hash padded)
