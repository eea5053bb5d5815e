-- Claims, signatures and bytes that the relations of cose's specs hold of, and values that they reject, each by the field that it breaks.
use Prim.Native.Nat.{ℕ, zero, suc}
use mathlib.Core.Path.{refl}
use mathlib.Core.Bool.{false≢true}
use mathlib.Core.List.{List, [], ◌∷◌, ◌++◌}
use native.Mathlib.Omega.{arith}
use lib.Dec.{lit<}
use lib.ListN.{replicate}
use Rattle.octets.specs.Bytes.{AreBytes}
use Rattle.eif_lemmas.proofs.Verdicts.{never}
use Rattle.cose.specs.Cbor.{head_bytes, string_bytes}
use Rattle.cose.specs.Sign1.{signature_size, signature_fits, protected_bytes, index_pair, value_pair, payload_bytes, sign1_bytes, Typed, Writable, IsSign1}
use Rattle.cose.specs.Read.{read_sign1, sign1_formed, refused_sign1, signature_start, algorithm_of, value_start, index_start, number_end, number_width, bytes_end, byte_end}
use Rattle.cose.specs.Write.{IsWritten}
use Rattle.cose.specs.declared.Claim.{Claim}
use Rattle.cose_laws.proofs.Accepted.{accepted_all, is_written, written_is}

abbrev claim_with : ℕ → List ℕ → Claim
claim_with index value = record { algorithm = 35; register_index = index; register_value = value }

same_bytes_holds : (n : ℕ) → AreBytes (replicate n 255)
same_bytes_holds zero = tt
same_bytes_holds (suc n) = (lit< tt, same_bytes_holds n)

typed_holds : Typed (claim_with 18446744073709551615 (replicate 48 255)) (replicate 96 255)
typed_holds = record { index_fits = lit< tt; value_long = refl; value_bytes_holds = same_bytes_holds 48; signature_bytes = same_bytes_holds 96 }

-- rejected: a number of 65 bits, a value a byte short, numbers that are no bytes
typed_rejects :
    (Typed (claim_with 18446744073709551616 (replicate 48 255)) [] → ⊥) × (Typed (claim_with 0 (replicate 47 255)) [] → ⊥)
    × (Typed (claim_with 0 (256 ∷ replicate 47 255)) [] → ⊥) × (Typed (claim_with 0 (replicate 48 255)) (256 ∷ []) → ⊥)
typed_rejects = (
  λ t. let h = t.index_fits in omega arith,
  λ t. let h = t.value_long in omega arith,
  λ t. let h = t.value_bytes_holds.0 in omega arith,
  λ t. let h = t.signature_bytes.0 in omega arith,
)

writable_holds : Writable (claim_with 18446744073709551615 (replicate 48 255)) (replicate 96 255)
unfolding signature_fits signature_size
writable_holds = record { fits = refl; typed = typed_holds }

-- rejected: a signature a byte short; a value a byte short
writable_rejects :
    (Writable (claim_with 0 (replicate 48 255)) (replicate 95 255) → ⊥) × (Writable (claim_with 0 (replicate 47 255)) (replicate 96 255) → ⊥)
unfolding signature_fits signature_size
writable_rejects = (λ w. false≢true w.fits, λ w. let h = w.typed.value_long in omega arith)

unfoldable signed : List ℕ
signed = sign1_bytes (claim_with 18446744073709551615 (replicate 48 255)) (replicate 96 255)

sign1_holds : IsSign1 signed × IsWritten signed
unfolding signed
sign1_holds = (is, is_written signed is)
  where
    is : IsSign1 signed
    is = record { claim = claim_with 18446744073709551615 (replicate 48 255); signature = replicate 96 255; writable = writable_holds; bytes = refl }

abbrev one_byte_more : List ℕ
one_byte_more = signed ++ 0 ∷ []

-- rejected: a byte after it; no bytes
sign1_rejects : (IsSign1 one_byte_more → ⊥) × (IsWritten one_byte_more → ⊥) × (IsSign1 [] → ⊥) × (IsWritten [] → ⊥)
unfolding signed sign1_bytes protected_bytes payload_bytes index_pair value_pair head_bytes string_bytes read_sign1 sign1_formed refused_sign1 signature_start algorithm_of value_start index_start number_end number_width bytes_end byte_end signature_size
sign1_rejects = (
  λ i. never _ (accepted_all one_byte_more i),
  λ w. never _ (accepted_all one_byte_more (written_is one_byte_more w)),
  λ i. never _ (accepted_all [] i),
  λ w. never _ (accepted_all [] (written_is [] w)),
)
