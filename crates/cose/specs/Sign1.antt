-- One COSE_Sign1 (RFC 9052, 4.2) that signs a register, as the EIF specification lays it out under EifSectionSignature: the bytes of
-- a claim with its signature, which of them there are, and so which byte strings are one. Assumes nothing.
use Rattle.std.specs.Prelude.{ℕ, ◌-◌, ◌^◌, ◌<◌, Bool, true, List, [], ◌∷◌, ◌++◌, ◌≡◌, ltb, eqb, length}
use Rattle.octets.specs.Bytes.{AreBytes}
use Rattle.octets.specs.Logic.{choose, both}
use Rattle.sha384_block.specs.Fips.{digest_size}
use Rattle.cose.specs.Cbor.{unsigned, negative, byte_string, text_string, elements, pairs, head_bytes, string_bytes, numbers_bytes}
use Rattle.cose.specs.declared.Claim.{Claim}

-- the bytes of a register's value, which is a SHA-384 digest
abbrev pub register_size : ℕ
register_size = digest_size

-- no COSE_Sign1 of this form is longer: `no_longer` of cose_laws/proofs/Places.antt
abbrev pub longest : ℕ
longest = 281

-- the last position that a part is written to or read from: past any that there is, and far below where a sum overflows
abbrev pub position_limit : ℕ
position_limit = 65536

-- ---- algorithms: their numbers in the COSE registry are -7, -35 and -36; here the sign is left off

abbrev pub es256 : ℕ
es256 = 7

abbrev pub es384 : ℕ
es384 = 35

abbrev pub es512 : ℕ
es512 = 36

-- the bytes of the shortest and of the longest signatures
abbrev pub shortest_signature : ℕ
shortest_signature = 64

abbrev pub longest_signature : ℕ
longest_signature = 132

-- the bytes of an algorithm's signatures; 0: it may not sign
unfoldable pub signature_size : ℕ → ℕ
signature_size algorithm =
    choose (eqb algorithm es256) shortest_signature
    (choose (eqb algorithm es384) 96
    (choose (eqb algorithm es512) longest_signature
    0))

-- ---- the bytes

-- "register_index"
abbrev pub index_name : List ℕ
index_name = 114 ∷ 101 ∷ 103 ∷ 105 ∷ 115 ∷ 116 ∷ 101 ∷ 114 ∷ 95 ∷ 105 ∷ 110 ∷ 100 ∷ 101 ∷ 120 ∷ []

-- "register_value"
abbrev pub value_name : List ℕ
value_name = 114 ∷ 101 ∷ 103 ∷ 105 ∷ 115 ∷ 116 ∷ 101 ∷ 114 ∷ 95 ∷ 118 ∷ 97 ∷ 108 ∷ 117 ∷ 101 ∷ []

-- the protected header, a map of one pair: parameter 1 is the algorithm, whose number is -1 - n
unfoldable pub protected_bytes : ℕ → List ℕ
protected_bytes algorithm = head_bytes pairs 1 ++ (head_bytes unsigned 1 ++ head_bytes negative (algorithm - 1))

unfoldable pub index_pair : ℕ → List ℕ
index_pair index = string_bytes text_string index_name ++ head_bytes unsigned index

-- the value is an array of 48 numbers
unfoldable pub value_pair : List ℕ → List ℕ
value_pair value = string_bytes text_string value_name ++ (head_bytes elements register_size ++ numbers_bytes value)

-- the payload, a map of two pairs
unfoldable pub payload_bytes : ℕ → List ℕ → List ℕ
payload_bytes index value = head_bytes pairs 2 ++ (index_pair index ++ value_pair value)

-- an array of four: the protected header as a byte string, an empty map, the payload as a byte string, the signature as a byte string
unfoldable pub sign1_bytes : Claim → List ℕ → List ℕ
sign1_bytes c signature =
    head_bytes elements 4
    ++ (string_bytes byte_string (protected_bytes c.algorithm)
    ++ (head_bytes pairs 0
    ++ (string_bytes byte_string (payload_bytes c.register_index c.register_value)
    ++ string_bytes byte_string signature)))

-- ---- which claims and signatures there are

-- one of the three algorithms, and a signature of its length
unfoldable pub signature_fits : ℕ → ℕ → Bool
signature_fits algorithm size = both (ltb 0 (signature_size algorithm)) (eqb size (signature_size algorithm))

-- what the types of the code ensure
pub record Typed (c : Claim) (signature : List ℕ) : Type 0 where
  pub index_fits : c.register_index < 2 ^ 64
  pub value_long : length c.register_value ≡ register_size
  pub value_bytes_holds : AreBytes c.register_value
  pub signature_bytes : AreBytes signature

pub record Writable (c : Claim) (signature : List ℕ) : Type 0 where
  pub fits : signature_fits c.algorithm (length signature) ≡ true
  pub typed : Typed c signature

-- one COSE_Sign1 of this form and nothing after it, said with no parser: the bytes of some claim and signature
pub record IsSign1 (s : List ℕ) : Type 0 where
  pub claim : Claim
  pub signature : List ℕ
  pub writable : Writable claim signature
  pub bytes : s ≡ sign1_bytes claim signature
