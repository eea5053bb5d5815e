-- The parts of CBOR (RFC 8949) that a COSE_Sign1 needs: heads in their shortest form, strings of a definite length, and numbers.
-- Assumes nothing.
use Rattle.std.specs.Prelude.{ℕ, ◌+◌, ◌*◌, List, [], ◌∷◌, ◌++◌, ltb, length}
use Rattle.octets.specs.Bytes.{be_bytes}
use Rattle.octets.specs.Logic.{choose}
use Rattle.octets.specs.Lists.{joined_by}

-- ---- major types (RFC 8949, 3.1)

abbrev pub unsigned : ℕ
unsigned = 0

-- the number in the head is n where the value is -1 - n
abbrev pub negative : ℕ
negative = 1

abbrev pub byte_string : ℕ
byte_string = 2

abbrev pub text_string : ℕ
text_string = 3

abbrev pub elements : ℕ
elements = 4

-- a map: the number in the head counts its pairs
abbrev pub pairs : ℕ
pairs = 5

-- ---- the head of a major type with a number below 2 to the 64, in its shortest form (RFC 8949, 3 and 4.2.1): the first byte is 32
-- times the major type, plus the number itself where it is below 24, or plus one of these where it follows in 1, 2, 4 or 8 bytes

abbrev pub in_one_byte : ℕ
in_one_byte = 24

abbrev pub in_two_bytes : ℕ
in_two_bytes = 25

abbrev pub in_four_bytes : ℕ
in_four_bytes = 26

abbrev pub in_eight_bytes : ℕ
in_eight_bytes = 27

-- the numbers of one, two and four bytes are below
abbrev pub one_byte_limit : ℕ
one_byte_limit = 256

abbrev pub two_byte_limit : ℕ
two_byte_limit = 65536

abbrev pub four_byte_limit : ℕ
four_byte_limit = 4294967296

unfoldable pub head_bytes : ℕ → ℕ → List ℕ
head_bytes major n =
    choose (ltb n in_one_byte) ((32 * major + n) ∷ [])
    (choose (ltb n one_byte_limit) ((32 * major + in_one_byte) ∷ n ∷ [])
    (choose (ltb n two_byte_limit) ((32 * major + in_two_bytes) ∷ be_bytes 2 n)
    (choose (ltb n four_byte_limit) ((32 * major + in_four_bytes) ∷ be_bytes 4 n)
    ((32 * major + in_eight_bytes) ∷ be_bytes 8 n))))

-- a byte string or a text string
unfoldable pub string_bytes : ℕ → List ℕ → List ℕ
string_bytes major s = head_bytes major (length s) ++ s

-- unsigned numbers, one after the other
abbrev pub numbers_bytes : List ℕ → List ℕ
numbers_bytes l = joined_by (head_bytes unsigned) l
