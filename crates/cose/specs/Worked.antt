-- Heads of RFC 8949, Appendix A, and on both sides of each width; the protected headers; the lengths of signatures; and the bytes of
-- one claim, line by line as the EIF specification lays them out. All by computation. Assumes nothing.
use Rattle.std.specs.Prelude.{◌≡◌, refl, [], ◌∷◌, ◌++◌, map, length, replicate}
use Rattle.eif.specs.Answers.{refuse}
use Rattle.eif.specs.declared.Verdict.TheVariants.{Accepted}
use Rattle.cose.specs.Write.{sign1_verdict}
use Rattle.cose.specs.Read.{read_sign1, sign1_formed, refused_sign1, signature_start, algorithm_of, value_start, index_start, number_end, number_width, bytes_end, byte_end}
use Rattle.cose.specs.Cbor.{unsigned, negative, head_bytes, string_bytes}
use Rattle.cose.specs.Sign1.{longest, es256, es384, es512, signature_size, protected_bytes, index_pair, value_pair, payload_bytes, sign1_bytes, signature_fits}
use Rattle.cose.specs.declared.Claim.{Claim}

-- 0, 1, 10, 23, 24, 25, 100, 255, 256, 1000, 65535, 65536, 1000000, 2^32-1, 2^32, 1000000000000, 2^64-1
unsigned_heads : map (head_bytes unsigned)
    (0 ∷ 1 ∷ 10 ∷ 23 ∷ 24 ∷ 25 ∷ 100 ∷ 255 ∷ 256 ∷ 1000 ∷ 65535 ∷ 65536 ∷ 1000000 ∷ 4294967295 ∷ 4294967296 ∷ 1000000000000 ∷ 18446744073709551615 ∷ [])
    ≡ (0x00 ∷ []) ∷ (0x01 ∷ []) ∷ (0x0a ∷ []) ∷ (0x17 ∷ []) ∷ (0x18 ∷ 0x18 ∷ []) ∷ (0x18 ∷ 0x19 ∷ []) ∷ (0x18 ∷ 0x64 ∷ []) ∷ (0x18 ∷ 0xff ∷ [])
    ∷ (0x19 ∷ 0x01 ∷ 0x00 ∷ []) ∷ (0x19 ∷ 0x03 ∷ 0xe8 ∷ []) ∷ (0x19 ∷ 0xff ∷ 0xff ∷ []) ∷ (0x1a ∷ 0x00 ∷ 0x01 ∷ 0x00 ∷ 0x00 ∷ [])
    ∷ (0x1a ∷ 0x00 ∷ 0x0f ∷ 0x42 ∷ 0x40 ∷ []) ∷ (0x1a ∷ 0xff ∷ 0xff ∷ 0xff ∷ 0xff ∷ [])
    ∷ (0x1b ∷ 0x00 ∷ 0x00 ∷ 0x00 ∷ 0x01 ∷ 0x00 ∷ 0x00 ∷ 0x00 ∷ 0x00 ∷ []) ∷ (0x1b ∷ 0x00 ∷ 0x00 ∷ 0x00 ∷ 0xe8 ∷ 0xd4 ∷ 0xa5 ∷ 0x10 ∷ 0x00 ∷ [])
    ∷ (0x1b ∷ 0xff ∷ 0xff ∷ 0xff ∷ 0xff ∷ 0xff ∷ 0xff ∷ 0xff ∷ 0xff ∷ []) ∷ []
unfolding head_bytes
unsigned_heads = refl

-- -1, -10, -100, -1000
negative_heads : map (head_bytes negative) (0 ∷ 9 ∷ 99 ∷ 999 ∷ [])
    ≡ (0x20 ∷ []) ∷ (0x29 ∷ []) ∷ (0x38 ∷ 0x63 ∷ []) ∷ (0x39 ∷ 0x03 ∷ 0xe7 ∷ []) ∷ []
unfolding head_bytes
negative_heads = refl

-- {1: -7}, {1: -35}, {1: -36}
protected_headers : map protected_bytes (es256 ∷ es384 ∷ es512 ∷ [])
    ≡ (0xa1 ∷ 0x01 ∷ 0x26 ∷ []) ∷ (0xa1 ∷ 0x01 ∷ 0x38 ∷ 0x22 ∷ []) ∷ (0xa1 ∷ 0x01 ∷ 0x38 ∷ 0x23 ∷ []) ∷ []
unfolding protected_bytes head_bytes
protected_headers = refl

signature_sizes : map signature_size (es256 ∷ es384 ∷ es512 ∷ 0 ∷ 37 ∷ []) ≡ 64 ∷ 96 ∷ 132 ∷ 0 ∷ 0 ∷ []
unfolding signature_size
signature_sizes = refl

-- register 3, a value of 46 bytes 0x17 and of 0x18 and 0xff, signed by ES384 with 96 bytes 0x5a
abbrev worked_claim : Claim
worked_claim = record { algorithm = es384; register_index = 3; register_value = replicate 46 0x17 ++ (0x18 ∷ 0xff ∷ []) }

worked_bytes : sign1_bytes worked_claim (replicate 96 0x5a)
    -- an array of four: a byte string of 4 with {1: -35}, an empty map
    ≡ (0x84 ∷ 0x44 ∷ 0xa1 ∷ 0x01 ∷ 0x38 ∷ 0x22 ∷ 0xa0 ∷ [])
    -- a byte string of 84 with a map of two: "register_index", 3
    ++ ((0x58 ∷ 0x54 ∷ 0xa2 ∷ 0x6e ∷ 0x72 ∷ 0x65 ∷ 0x67 ∷ 0x69 ∷ 0x73 ∷ 0x74 ∷ 0x65 ∷ 0x72 ∷ 0x5f ∷ 0x69 ∷ 0x6e ∷ 0x64 ∷ 0x65 ∷ 0x78 ∷ 0x03 ∷ [])
    -- "register_value", an array of 48 numbers
    ++ ((0x6e ∷ 0x72 ∷ 0x65 ∷ 0x67 ∷ 0x69 ∷ 0x73 ∷ 0x74 ∷ 0x65 ∷ 0x72 ∷ 0x5f ∷ 0x76 ∷ 0x61 ∷ 0x6c ∷ 0x75 ∷ 0x65 ∷ 0x98 ∷ 0x30 ∷ [])
    ++ (replicate 46 0x17 ++ ((0x18 ∷ 0x18 ∷ 0x18 ∷ 0xff ∷ [])
    -- a byte string of 96
    ++ (0x58 ∷ 0x60 ∷ replicate 96 0x5a)))))
unfolding sign1_bytes protected_bytes payload_bytes index_pair value_pair string_bytes head_bytes
worked_bytes = refl

-- the longest there is
longest_there : length (sign1_bytes (record { algorithm = es512; register_index = 18446744073709551615; register_value = replicate 48 255 }) (replicate 132 0)) ≡ longest
unfolding sign1_bytes protected_bytes payload_bytes index_pair value_pair string_bytes head_bytes
longest_there = refl

-- no bytes: all of the answer is zero but its number; then a claim whose signature is a byte too long, and no room. 28 and 14 are written out, as
-- FORMAT.md prints them
pub not_read : read_sign1 []
    ≡ record {
      verdict = refuse 28 0;
      claim = record { algorithm = 0; register_index = 0; register_value = replicate 48 0 };
      position = record { 0 = 0 };
      length = record { 0 = 0 };
    }
unfolding read_sign1 sign1_formed refused_sign1 signature_start algorithm_of value_start index_start number_end number_width bytes_end byte_end signature_size
not_read = refl

-- 28 comes before 14; and 14 on both sides of the 191 bytes
pub not_written :
    sign1_verdict worked_claim (replicate 97 0x5a) 300 ∷ sign1_verdict worked_claim (replicate 96 0x5a) 0 ∷ sign1_verdict worked_claim (replicate 97 0x5a) 0
    ∷ sign1_verdict worked_claim (replicate 96 0x5a) 190 ∷ sign1_verdict worked_claim (replicate 96 0x5a) 191 ∷ []
    ≡ refuse 28 0 ∷ refuse 14 0 ∷ refuse 28 0 ∷ refuse 14 0 ∷ Accepted ∷ []
unfolding sign1_verdict signature_fits signature_size sign1_bytes protected_bytes payload_bytes index_pair value_pair string_bytes head_bytes
not_written = refl
