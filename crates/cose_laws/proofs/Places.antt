-- The bytes of a claim with more bytes after them: the reader takes that claim, and where its signature starts.
-- Assumes nothing.
use Prim.Native.Nat.{ℕ, ◌+◌, ◌<◌, ◌≤◌}
use mathlib.Core.Path.{◌≡◌, refl, sym, ap, ap₂, ◌∙◌}
use mathlib.Core.List.{List, ◌++◌, append_assoc}
use mathlib.Core.Logic.{⊎_elim}
use native.Mathlib.Omega.{arith}
use borrow.Author.Tests.{ltb-true, eqb-true}
use lib.Dec.{ltb, eqb}
use lib.ListN.{length, drop, length-append}
use lib.Seq.{drop_at}
use Rattle.octets.proofs.Logic.{both_true}
use Rattle.cose.specs.Cbor.{unsigned, byte_string, in_one_byte, one_byte_limit, head_bytes, string_bytes, numbers_bytes}
use Rattle.cose.specs.Sign1.{register_size, longest, signature_size, signature_fits, Writable, payload_bytes, sign1_bytes}
use Rattle.cose.specs.Read.{number_at, number_end, bytes_from, bytes_end, algorithm_of, index_start, value_start, signature_start, claim_of, signature_of}
use Rattle.cose.specs.declared.Claim.{Claim}
use Rattle.cose_lemmas.proofs.Head.{head_two, numbers_bounds, size_one, size_two, size_three, size_five, size_nine}
use Rattle.cose_lemmas.specs.Opening.{opening}
use Rattle.cose_lemmas.proofs.Parts.{which, size_bounds, opening_first, opening_second, opening_last, before_index, before_value, payload_parts, payload_size, sign_parts, sign_size}
use Rattle.cose_laws.proofs.Numbers.{Form, one, two, three, five, nine, form, number_back, number_ends, row_back}

-- a head takes at most nine bytes
head_size : (n : ℕ) → Form n → length (head_bytes unsigned n) ≤ 9
head_size n (one h) = let e = size_one n h in omega arith
head_size n (two l h) = let e = size_two n l h in omega arith
head_size n (three l h) = let e = size_three n l h in omega arith
head_size n (five l h) = let e = size_five n l h in omega arith
head_size n (nine l) = let e = size_nine n l in omega arith

-- ---- the opening tells the algorithm and where the index stands

module _ (a : ℕ) (known : 0 < signature_size a) (r : List ℕ) where
  algorithm_back : algorithm_of (opening a ++ r) ≡ a
  unfolding algorithm_of
  algorithm_back =
      ⊎_elim (λ e. ap (λ (o : List ℕ). algorithm_of (o ++ r)) (opening_first a e) ∙ sym e)
      (⊎_elim (λ e. ap (λ (o : List ℕ). algorithm_of (o ++ r)) (opening_second a e) ∙ sym e)
      (λ e. ap (λ (o : List ℕ). algorithm_of (o ++ r)) (opening_last a e) ∙ sym e))
      (which a known)

  index_start_back : index_start (opening a ++ r) ≡ length (opening a) + 18
  unfolding index_start
  index_start_back =
      ⊎_elim (λ e. ap (λ (o : List ℕ). index_start (o ++ r)) (opening_first a e) ∙ sym (ap (λ (o : List ℕ). length o + 18) (opening_first a e)))
      (⊎_elim (λ e. ap (λ (o : List ℕ). index_start (o ++ r)) (opening_second a e) ∙ sym (ap (λ (o : List ℕ). length o + 18) (opening_second a e)))
      (λ e. ap (λ (o : List ℕ). index_start (o ++ r)) (opening_last a e) ∙ sym (ap (λ (o : List ℕ). length o + 18) (opening_last a e))))
      (which a known)

-- it is at most seven bytes
opening_size : (a : ℕ) → 0 < signature_size a → length (opening a) ≤ 7
opening_size a known =
    ⊎_elim (λ e. let n = ap length (opening_first a e) in omega arith)
    (⊎_elim (λ e. let n = ap length (opening_second a e) in omega arith) (λ e. let n = ap length (opening_last a e) in omega arith))
    (which a known)

-- ---- a claim that can be written

module _ (c : Claim) (sig : List ℕ) (writable : Writable c sig) where
  fit : (0 < signature_size c.algorithm) × (length sig ≡ signature_size c.algorithm)
  unfolding signature_fits
  fit =
      let h = both_true (ltb 0 (signature_size c.algorithm)) (eqb (length sig) (signature_size c.algorithm)) writable.fits in
      (ltb-true 0 (signature_size c.algorithm) h.0, eqb-true (length sig) (signature_size c.algorithm) h.1)

  pub known : 0 < signature_size c.algorithm
  known = fit.0

  pub sized : length sig ≡ signature_size c.algorithm
  sized = fit.1

  abbrev payload : List ℕ
  payload = payload_bytes c.register_index c.register_value

  payload_bounds : (in_one_byte ≤ length payload) × (length payload < one_byte_limit)
  payload_bounds =
      let n = numbers_bounds c.register_value writable.typed.value_bytes_holds in
      let i = head_size c.register_index (form c.register_index) in
      let e = payload_size c.register_index c.register_value in
      let v = writable.typed.value_long in
      (omega arith, omega arith)

  signature_bounds : (in_one_byte ≤ length sig) × (length sig < one_byte_limit)
  signature_bounds = let h = size_bounds c.algorithm known in let e = sized in (omega arith, omega arith)

  -- none is longer
  pub no_longer : length (sign1_bytes c sig) ≤ longest
  no_longer =
      let n = numbers_bounds c.register_value writable.typed.value_bytes_holds in
      let i = head_size c.register_index (form c.register_index) in
      let e = payload_size c.register_index c.register_value in
      let v = writable.typed.value_long in
      let o = opening_size c.algorithm known in
      let b = size_bounds c.algorithm known in
      let g = sized in
      let z = sign_size c sig payload_bounds.1 payload_bounds.0 signature_bounds.0 signature_bounds.1 in
      omega arith

  abbrev index : List ℕ
  index = head_bytes unsigned c.register_index

  abbrev value_bytes : List ℕ
  value_bytes = numbers_bytes c.register_value

  abbrev string_head : List ℕ
  string_head = head_bytes byte_string (length payload)

  abbrev last : List ℕ
  last = head_bytes byte_string (length sig)

  -- what stands before the index, before the value, and before the signature
  before_index_holds : List ℕ
  before_index_holds = opening c.algorithm ++ (string_head ++ before_index)

  before_value_holds : List ℕ
  before_value_holds = before_index_holds ++ (index ++ before_value)

  before_signature : List ℕ
  before_signature = before_value_holds ++ (value_bytes ++ last)

  length_index : length before_index_holds ≡ length (opening c.algorithm) + 18
  unfolding before_index_holds
  length_index =
      let e = ap length (head_two byte_string (length payload) payload_bounds.0 payload_bounds.1) in
      simp length-append (omega arith)

  length_value : length before_value_holds ≡ length before_index_holds + length index + 17
  unfolding before_value_holds
  length_value = simp length-append (omega arith)

  length_signature : length before_signature ≡ length before_value_holds + length value_bytes + 2
  unfolding before_signature
  length_signature =
      let e = ap length (head_two byte_string (length sig) signature_bounds.0 signature_bounds.1) in
      simp length-append (omega arith)

  module _ (t : List ℕ) where
    abbrev pub sign1_then : List ℕ
    sign1_then = sign1_bytes c sig ++ t

    whole_opening : sign1_then ≡ opening c.algorithm ++ (string_head ++ (payload ++ (string_bytes byte_string sig ++ t)))
    whole_opening = ap (λ (l : List ℕ). l ++ t) (sign_parts c sig) ∙ simp append_assoc

    whole_index : sign1_then ≡ before_index_holds ++ (index ++ (before_value ++ (value_bytes ++ (last ++ (sig ++ t)))))
    unfolding before_index_holds string_bytes
    whole_index = whole_opening ∙ simp (payload_parts, append_assoc)

    whole_value : sign1_then ≡ before_value_holds ++ (value_bytes ++ (last ++ (sig ++ t)))
    unfolding before_value_holds
    whole_value = whole_index ∙ simp append_assoc

    whole_signature : sign1_then ≡ before_signature ++ (sig ++ t)
    unfolding before_signature
    whole_signature = whole_value ∙ simp append_assoc

    -- ---- what the reader takes from it

    pub algorithm_same : algorithm_of sign1_then ≡ c.algorithm
    algorithm_same = ap algorithm_of whole_opening ∙ algorithm_back c.algorithm known _

    index_start_holds : index_start sign1_then ≡ length before_index_holds
    index_start_holds = ap index_start whole_opening ∙ index_start_back c.algorithm known _ ∙ sym length_index

    index_same : number_at sign1_then (index_start sign1_then) ≡ c.register_index
    index_same =
        ap₂ number_at whole_index index_start_holds
        ∙ number_back before_index_holds (before_value ++ (value_bytes ++ (last ++ (sig ++ t)))) (length before_index_holds) refl c.register_index writable.typed.index_fits (form c.register_index)

    value_start_holds : value_start sign1_then ≡ length before_value_holds
    unfolding value_start
    value_start_holds =
        ap (λ (k : ℕ). k + 17)
        (ap₂ number_end whole_index index_start_holds
        ∙ number_ends before_index_holds (before_value ++ (value_bytes ++ (last ++ (sig ++ t)))) (length before_index_holds) refl c.register_index (form c.register_index))
        ∙ sym length_value

    values_back : (bytes_from sign1_then register_size (value_start sign1_then) ≡ c.register_value) × (bytes_end sign1_then register_size (value_start sign1_then) ≡ length before_value_holds + length value_bytes)
    values_back =
        let f = row_back (last ++ (sig ++ t)) c.register_value writable.typed.value_bytes_holds before_value_holds (length before_value_holds) refl in
        let n = sym writable.typed.value_long in (
          ap₂ (λ (l : List ℕ) (k : ℕ). bytes_from l k (value_start sign1_then)) whole_value n ∙ ap (bytes_from _ (length c.register_value)) value_start_holds ∙ f.0,
          ap₂ (λ (l : List ℕ) (k : ℕ). bytes_end l k (value_start sign1_then)) whole_value n ∙ ap (bytes_end _ (length c.register_value)) value_start_holds ∙ f.1,
        )

    signature_start_holds : signature_start sign1_then ≡ length before_signature
    unfolding signature_start
    signature_start_holds = ap (λ (k : ℕ). k + 2) values_back.1 ∙ sym length_signature

    abbrev taken : ℕ → ℕ → List ℕ → Claim
    taken a n v = record { algorithm = a; register_index = n; register_value = v }

    pub claim_same : claim_of sign1_then ≡ c
    unfolding claim_of
    claim_same = ap₂ (λ (a n : ℕ). taken a n (bytes_from sign1_then register_size (value_start sign1_then))) algorithm_same index_same ∙ ap (taken c.algorithm c.register_index) values_back.0

    pub signature_same : signature_of sign1_then ≡ sig ++ t
    unfolding signature_of
    signature_same = ap₂ (λ (k : ℕ) (l : List ℕ). drop k l) signature_start_holds whole_signature ∙ drop_at before_signature (sig ++ t) (length before_signature) refl

    -- the signature ends where the claim's bytes end
    pub end_same : signature_start sign1_then + length sig ≡ length (sign1_bytes c sig)
    end_same =
        let e = ap length whole_signature in
        let f = length-append (sign1_bytes c sig) t in
        let g = length-append before_signature (sig ++ t) in
        let h = length-append sig t in
        let k = signature_start_holds in
        omega arith
