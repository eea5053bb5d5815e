-- The bytes of a COSE_Sign1 by the parts that stand one after the other, and how long they are.
-- Assumes nothing.
use Prim.Native.Nat.{ℕ, ◌+◌, ◌<◌, ◌≤◌}
use mathlib.Core.Path.{◌≡◌, refl, sym, ap, ◌∙◌}
use mathlib.Core.List.{List, [], ◌∷◌, ◌++◌, append_assoc}
use mathlib.Core.Logic.{◌⊎◌, inl, inr, ⊎_elim}
use native.Mathlib.Omega.{arith}
use native.Mathlib.Decide.{ℕ_discrete}
use borrow.Author.Tests.{ne_eqb}
use lib.ListN.{length, length-append}
use Rattle.cose_lemmas.specs.Opening.{opening}
use Rattle.cose.specs.Cbor.{unsigned, byte_string, in_one_byte, one_byte_limit, head_bytes, string_bytes, numbers_bytes}
use Rattle.cose.specs.Sign1.{es256, es384, es512, shortest_signature, longest_signature, signature_size, index_name, value_name, protected_bytes, index_pair, value_pair, payload_bytes, sign1_bytes, register_size}
use Rattle.cose.specs.declared.Claim.{Claim}
use Rattle.cose_lemmas.proofs.Head.{head_two}

-- ---- the algorithms

module _ (a : ℕ) where
  pub size_256 : a ≡ es256 → signature_size a ≡ shortest_signature
  unfolding signature_size
  size_256 e = rw e

  pub size_384 : a ≡ es384 → signature_size a ≡ 96
  unfolding signature_size
  size_384 e = rw e

  pub size_512 : a ≡ es512 → signature_size a ≡ longest_signature
  unfolding signature_size
  size_512 e = rw e

  pub size_other : (a ≡ es256 → ⊥) → (a ≡ es384 → ⊥) → (a ≡ es512 → ⊥) → signature_size a ≡ 0
  unfolding signature_size
  size_other p q r = simp (ne_eqb _ _ p, ne_eqb _ _ q, ne_eqb _ _ r)

  -- one that may sign is one of the three
  pub which : 0 < signature_size a → (a ≡ es256) ⊎ ((a ≡ es384) ⊎ (a ≡ es512))
  which h =
      elim (ℕ_discrete a es256) [
        | yes p ↦ inl p
        | no p ↦ elim (ℕ_discrete a es384) [
          | yes q ↦ inr (inl q)
          | no q ↦ elim (ℕ_discrete a es512) [
            | yes r ↦ inr (inr r)
            | no r ↦ absurd (let e = size_other p q r in omega arith)
          ]
        ]
      ]

-- its signatures take 64 to 132 bytes
pub size_bounds : (a : ℕ) → 0 < signature_size a → (shortest_signature ≤ signature_size a) × (signature_size a ≤ longest_signature)
size_bounds a h =
    ⊎_elim (λ e. let k = size_256 a e in (omega arith, omega arith))
    (⊎_elim (λ e. let k = size_384 a e in (omega arith, omega arith)) (λ e. let k = size_512 a e in (omega arith, omega arith)))
    (which a h)

-- ---- up to the payload's head

-- it is one of three
module _ (a : ℕ) where
  pub opening_first : a ≡ es256 → opening a ≡ 132 ∷ 67 ∷ 161 ∷ 1 ∷ 38 ∷ 160 ∷ []
  unfolding opening string_bytes head_bytes protected_bytes
  opening_first e = rw e

  pub opening_second : a ≡ es384 → opening a ≡ 132 ∷ 68 ∷ 161 ∷ 1 ∷ 56 ∷ 34 ∷ 160 ∷ []
  unfolding opening string_bytes head_bytes protected_bytes
  opening_second e = rw e

  pub opening_last : a ≡ es512 → opening a ≡ 132 ∷ 68 ∷ 161 ∷ 1 ∷ 56 ∷ 35 ∷ 160 ∷ []
  unfolding opening string_bytes head_bytes protected_bytes
  opening_last e = rw e

  module _ (known : 0 < signature_size a) (p : a ≡ es256 → ⊥) where
    pub opening_third : (a ≡ es384 → ⊥) → opening a ≡ 132 ∷ 68 ∷ 161 ∷ 1 ∷ 56 ∷ 35 ∷ 160 ∷ []
    opening_third q = ⊎_elim (λ e. absurd (p e)) (⊎_elim (λ e. absurd (q e)) (λ e. opening_last e)) (which a known)

    pub opening_long : 7 ≡ length (opening a)
    opening_long =
        ⊎_elim (λ e. absurd (p e)) (⊎_elim (λ e. sym (ap length (opening_second e))) (λ e. sym (ap length (opening_last e)))) (which a known)

-- ---- the payload

-- in the payload, before the index and before the value
abbrev pub before_index : List ℕ
before_index = 162 ∷ 110 ∷ index_name

abbrev pub before_value : List ℕ
before_value = 110 ∷ (value_name ++ (152 ∷ register_size ∷ []))

pub payload_parts : (index : ℕ) (value : List ℕ)
    → payload_bytes index value ≡ before_index ++ (head_bytes unsigned index ++ (before_value ++ numbers_bytes value))
unfolding payload_bytes index_pair value_pair string_bytes head_bytes
payload_parts index value = refl

pub payload_size : (index : ℕ) (value : List ℕ)
    → length (payload_bytes index value) ≡ 33 + length (head_bytes unsigned index) + length (numbers_bytes value)
payload_size index value =
    let e = ap length (payload_parts index value) in
    let f = length-append (head_bytes unsigned index) (before_value ++ numbers_bytes value) in
    omega arith

-- the whole
module _ (c : Claim) (signature : List ℕ) where
  pub sign_parts : sign1_bytes c signature
      ≡ opening c.algorithm ++ (head_bytes byte_string (length (payload_bytes c.register_index c.register_value))
      ++ (payload_bytes c.register_index c.register_value ++ string_bytes byte_string signature))
  unfolding sign1_bytes opening string_bytes
  sign_parts = simp append_assoc

  module _ (small : length (payload_bytes c.register_index c.register_value) < one_byte_limit) (large : in_one_byte ≤ length (payload_bytes c.register_index c.register_value)) where
    pub sign_size : in_one_byte ≤ length signature → length signature < one_byte_limit
        → length (sign1_bytes c signature) ≡ length (opening c.algorithm) + 2 + length (payload_bytes c.register_index c.register_value) + 2 + length signature
    unfolding string_bytes
    sign_size l h =
        let p = payload_bytes c.register_index c.register_value in
        let e = ap length (head_two byte_string (length p) large small) in
        let f = ap length (head_two byte_string (length signature) l h) in
        ap length sign_parts ∙ simp length-append (omega arith)
