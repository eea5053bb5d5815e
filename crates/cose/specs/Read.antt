-- Reading one COSE_Sign1: the claim that a byte string could make is taken from the places where its parts would stand, and the byte
-- string is accepted exactly when it is the bytes of that claim and of the signature after it. So no head, name, length or order needs a
-- rule of its own, and what is accepted is what would be written. Past the end a byte reads as 0, so every byte string has an answer.
-- Assumes nothing.
use Rattle.std.specs.Prelude.{ℕ, zero, suc, ◌+◌, Bool, List, [], ◌∷◌, ltb, eqb, length, get_or, replicate, drop}
use Rattle.octets.specs.Bytes.{field}
use Rattle.eif.specs.Numbers.{not_sign1}
use Rattle.octets.specs.Logic.{choose, both}
use Rattle.octets.specs.Same.{same_bytes}
use Rattle.eif.specs.Answers.{refuse}
use Rattle.eif.specs.declared.Verdict.TheVariants.{Accepted}
use Rattle.cose.specs.Cbor.{in_one_byte, in_two_bytes, in_four_bytes}
use Rattle.cose.specs.Sign1.{register_size, es256, es384, es512, signature_size, sign1_bytes}
use Rattle.cose.specs.declared.Claim.{Claim}
use Rattle.cose.specs.declared.Sign1Reading.{Sign1Reading}

-- ---- numbers

-- in how many bytes a number follows a head's first byte
unfoldable pub number_width : ℕ → ℕ
number_width first =
    choose (ltb first in_one_byte) 0
    (choose (eqb first in_one_byte) 1
    (choose (eqb first in_two_bytes) 2
    (choose (eqb first in_four_bytes) 4
    8)))

-- the number whose head stands at a position, and where the head ends
unfoldable pub number_at : List ℕ → ℕ → ℕ
number_at s at = let first = get_or s at 0 in choose (ltb first in_one_byte) first (field (number_width first) (at + 1) s)

unfoldable pub number_end : List ℕ → ℕ → ℕ
number_end s at = at + 1 + number_width (get_or s at 0)

-- the same of a number below 256
unfoldable pub byte_at : List ℕ → ℕ → ℕ
byte_at s at = choose (ltb (get_or s at 0) in_one_byte) (get_or s at 0) (get_or s (at + 1) 0)

unfoldable pub byte_end : List ℕ → ℕ → ℕ
byte_end s at = choose (ltb (get_or s at 0) in_one_byte) (at + 1) (at + 2)

-- n such numbers from a position on, and where the last ends
unfoldable pub bytes_from : List ℕ → ℕ → ℕ → List ℕ
bytes_from s zero at = []
bytes_from s (suc n) at = byte_at s at ∷ bytes_from s n (byte_end s at)

unfoldable pub bytes_end : List ℕ → ℕ → ℕ → ℕ
bytes_end s zero at = at
bytes_end s (suc n) at = bytes_end s n (byte_end s at)

-- ---- where the claim's parts stand

-- the protected header's own head, 67 (0x43) for the three bytes that ES256 takes; the other two take four, of which the last, at 5,
-- is 34 for -35 and 35 for -36
unfoldable pub algorithm_of : List ℕ → ℕ
algorithm_of s = choose (eqb (get_or s 1 0) 67) es256 (choose (eqb (get_or s 5 0) 34) es384 es512)

-- after the array's head, the protected header, the empty map, the payload's head of two bytes, the map's head and the first name
unfoldable pub index_start : List ℕ → ℕ
index_start s = choose (eqb (get_or s 1 0) 67) 24 25

-- after the index, the second name of 15 bytes and the array's head of two
unfoldable pub value_start : List ℕ → ℕ
value_start s = number_end s (index_start s) + 17

-- after the value and the signature's head of two bytes
unfoldable pub signature_start : List ℕ → ℕ
signature_start s = bytes_end s register_size (value_start s) + 2

unfoldable pub claim_of : List ℕ → Claim
claim_of s =
    record {
      algorithm = algorithm_of s;
      register_index = number_at s (index_start s);
      register_value = bytes_from s register_size (value_start s);
    }

unfoldable pub signature_of : List ℕ → List ℕ
signature_of s = drop (signature_start s) s

-- ---- the answer

-- the signature that a reading of a byte string points to
abbrev pub signature_in : List ℕ → Sign1Reading → List ℕ
signature_in s r = drop r.position.0 s

-- the signature has its algorithm's length and nothing stands after it; and all bytes are those of the claim
unfoldable pub sign1_formed : List ℕ → Bool
sign1_formed s =
    both (eqb (length s) (signature_start s + signature_size (algorithm_of s)))
    (same_bytes s (sign1_bytes (claim_of s) (signature_of s)))

abbrev pub blank_claim : Claim
blank_claim = record { algorithm = 0; register_index = 0; register_value = replicate register_size 0 }

unfoldable pub refused_sign1 : Sign1Reading
refused_sign1 = record { verdict = refuse not_sign1 0; claim = blank_claim; position = record { 0 = 0 }; length = record { 0 = 0 } }

-- with the signature's own bytes from a position on, so many
unfoldable pub accepted_sign1 : Claim → ℕ → ℕ → Sign1Reading
accepted_sign1 c position size =
    record { verdict = Accepted; claim = c; position = record { 0 = position }; length = record { 0 = size } }

unfoldable pub read_sign1 : List ℕ → Sign1Reading
read_sign1 s =
    choose (sign1_formed s) (accepted_sign1 (claim_of s) (signature_start s) (signature_size (algorithm_of s))) refused_sign1
