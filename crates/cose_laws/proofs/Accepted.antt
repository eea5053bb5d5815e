-- Accepted exactly when it is what would be written: the claim that is taken from a byte string can be written, an accepted byte string
-- is the bytes of what its reading says, and the accepted ones are those that the writer writes. None of them begins another.
-- Assumes nothing.
use Prim.Native.Nat.{ℕ, zero, suc, ◌+◌, ◌-◌, ◌^◌, ◌<◌, ◌≤◌}
use mathlib.Core.Bool.{Bool, true, false, not}
use mathlib.Core.Path.{◌≡◌, refl, sym, ap, ap₂, ◌∙◌}
use mathlib.Core.List.{List, [], ◌∷◌, ◌++◌}
use native.Mathlib.Omega.{arith}
use native.Mathlib.Nat.{lt_of_lt_of_le}
use borrow.Author.Tests.{eqb-true, ltb-false}
use lib.Dec.{eqb, ltb}
use lib.ListN.{length, get_or, take}
use Rattle.octets.specs.Bytes.{AreBytes, field}
use Rattle.octets.specs.Over.{over}
use Rattle.octets.proofs.Value.{field_lt, bytes_drop, bytes_append}
use Rattle.eif.specs.Numbers.{not_sign1, output_too_short}
use Rattle.octets.specs.Logic.{choose}
use Rattle.eif.specs.Answers.{refuse, and_then}
use Rattle.eif.specs.Output.{written_for}
use Rattle.eif.specs.declared.Verdict.TheVariants.{Accepted}
use Rattle.eif.specs.declared.Written.{Written}
use Rattle.octets.proofs.Logic.{both_true, choose_holds}
use Rattle.eif_lemmas.proofs.Verdicts.{never}
use Rattle.cose.specs.Cbor.{in_one_byte, in_two_bytes, in_four_bytes}
use Rattle.cose.specs.Sign1.{register_size, signature_size, signature_fits, Writable, IsSign1, sign1_bytes}
use Rattle.cose.specs.Write.{sign1_verdict, sign1_answer, sign1_output, IsWritten}
use Rattle.octets.specs.Same.{same_bytes}
use Rattle.cose.specs.Read.{number_width, number_at, byte_at, byte_end, bytes_from, algorithm_of, index_start, value_start, signature_start, claim_of, signature_of, sign1_formed, accepted_sign1, refused_sign1, read_sign1, signature_in}
use Rattle.cose.specs.declared.Claim.{Claim}
use Rattle.cose.specs.declared.Sign1Reading.{Sign1Reading}
use Rattle.cose_lemmas.proofs.Answers.{fine}
use Rattle.octets.proofs.Same.{same_equal}
use Rattle.cose_lemmas.proofs.Same.{signature_fits_holds}
use Rattle.cose_laws.proofs.RoundTrip.{reads_back, written_part, none_begins}

-- ---- what is taken from a byte string can be written

module _ (s : List ℕ) (bytes : AreBytes s) where
  byte_below : (l : List ℕ) → AreBytes l → (i : ℕ) → get_or l i 0 < 256
  byte_below [] a i = omega arith
  byte_below (x ∷ xs) a zero = a.0
  byte_below (x ∷ xs) a (suc i) = byte_below xs a.1 i

  number_fits : (at : ℕ) → number_at s at < 2 ^ 64
  unfolding number_at number_width
  number_fits at =
      let b = get_or s at 0 in
      by (ltb b in_one_byte) (eqb b in_one_byte) (eqb b in_two_bytes) (eqb b in_four_bytes)
    where
      by : (p q r t : Bool) → choose p (get_or s at 0) (field (choose p 0 (choose q 1 (choose r 2 (choose t 4 8)))) (at + 1) s) < 2 ^ 64
      by true q r t = lt_of_lt_of_le (byte_below s bytes at) (omega arith)
      by false true r t = lt_of_lt_of_le (field_lt 1 (at + 1) s bytes) (omega arith)
      by false false true t = lt_of_lt_of_le (field_lt 2 (at + 1) s bytes) (omega arith)
      by false false false true = lt_of_lt_of_le (field_lt 4 (at + 1) s bytes) (omega arith)
      by false false false false = field_lt 8 (at + 1) s bytes

  byte_fits : (at : ℕ) → byte_at s at < 256
  unfolding byte_at
  byte_fits at =
      choose_holds (λ (n : ℕ). n < 256) (ltb (get_or s at 0) in_one_byte) _ _ (λ _. byte_below s bytes at) (λ _. byte_below s bytes (at + 1))

  row_bytes : (n at : ℕ) → AreBytes (bytes_from s n at)
  unfolding bytes_from
  row_bytes zero at = tt
  row_bytes (suc n) at = (byte_fits at, row_bytes n (byte_end s at))

  row_long : (n at : ℕ) → length (bytes_from s n at) ≡ n
  unfolding bytes_from
  row_long zero at = refl
  row_long (suc n) at = ap suc (row_long n (byte_end s at))

  module _ (size : length s ≡ signature_start s + signature_size (algorithm_of s)) where
    taken_writable : Writable (claim_of s) (signature_of s)
    unfolding claim_of signature_of
    taken_writable =
        record {
          fits = signature_fits_holds s size;
          typed =
              record {
                index_fits = number_fits (index_start s);
                value_long = row_long register_size (value_start s);
                value_bytes_holds = row_bytes register_size (value_start s);
                signature_bytes = bytes_drop (signature_start s) s bytes;
              };
        }

-- ---- the two answers

module _ (s : List ℕ) where
  yes_answer : sign1_formed s ≡ true → read_sign1 s ≡ accepted_sign1 (claim_of s) (signature_start s) (signature_size (algorithm_of s))
  unfolding read_sign1
  yes_answer e = rw e

  no_answer : sign1_formed s ≡ false → read_sign1 s ≡ refused_sign1
  unfolding read_sign1
  no_answer e = rw e

  refused_verdict : refused_sign1.verdict ≡ Accepted → ⊥
  unfolding refused_sign1
  refused_verdict e = never _ e

  verdict_true : (read_sign1 s).verdict ≡ Accepted → sign1_formed s ≡ true
  verdict_true e = by (sign1_formed s) refl
    where
      by : (b : Bool) → sign1_formed s ≡ b → b ≡ true
      by true f = refl
      by false f = absurd (refused_verdict (sym (ap (λ (r : Sign1Reading). r.verdict) (no_answer f)) ∙ e))

  -- the two facts behind an acceptance
  facts : sign1_formed s ≡ true → (length s ≡ signature_start s + signature_size (algorithm_of s)) × (s ≡ sign1_bytes (claim_of s) (signature_of s))
  unfolding sign1_formed
  facts e =
      let made = sign1_bytes (claim_of s) (signature_of s) in
      let h = both_true (eqb (length s) (signature_start s + signature_size (algorithm_of s))) (same_bytes s made) e in
      (eqb-true (length s) (signature_start s + signature_size (algorithm_of s)) h.0, same_equal s made h.1)

-- ---- accepted exactly when it is the bytes of some claim

accepted_verdict : (c : Claim) (position size : ℕ) → (accepted_sign1 c position size).verdict ≡ Accepted
unfolding accepted_sign1
accepted_verdict c position size = refl

pub accepted_all : (s : List ℕ) → IsSign1 s → (read_sign1 s).verdict ≡ Accepted
accepted_all s i =
    ap (λ (l : List ℕ). (read_sign1 l).verdict) i.bytes
    ∙ ap (λ (r : Sign1Reading). r.verdict) (reads_back i.claim i.signature i.writable)
    ∙ accepted_verdict i.claim (length (sign1_bytes i.claim i.signature) - length i.signature) (length i.signature)

module _ (s : List ℕ) (bytes : AreBytes s) where
  pub accepted_only : (read_sign1 s).verdict ≡ Accepted → IsSign1 s
  accepted_only e =
      let h = facts s (verdict_true s e) in
      record { claim = claim_of s; signature = signature_of s; writable = taken_writable s bytes h.0; bytes = h.1 }

  -- anything else has the one refusal, with all zero beside it
  pub refused_else : (IsSign1 s → ⊥) → read_sign1 s ≡ refused_sign1
  refused_else not = by (sign1_formed s) refl
    where
      by : (b : Bool) → sign1_formed s ≡ b → read_sign1 s ≡ refused_sign1
      by true f =
          absurd (not (accepted_only (ap (λ (r : Sign1Reading). r.verdict) (yes_answer s f) ∙ accepted_verdict (claim_of s) (signature_start s) (signature_size (algorithm_of s)))))
      by false f = no_answer s f

  -- what is accepted is what would be written: the bytes of the claim and signature that its reading gives, in any buffer that has room
  module _ (e : (read_sign1 s).verdict ≡ Accepted) where
    abbrev r : Sign1Reading
    r = read_sign1 s

    answer : r ≡ accepted_sign1 (claim_of s) (signature_start s) (signature_size (algorithm_of s))
    answer = yes_answer s (verdict_true s e)

    claim_read : r.claim ≡ claim_of s
    unfolding accepted_sign1
    claim_read = ap (λ (q : Sign1Reading). q.claim) answer

    signature_read : signature_in s r ≡ signature_of s
    unfolding accepted_sign1 signature_of
    signature_read = ap (signature_in s) answer

    pub writable_read : Writable (read_sign1 s).claim (signature_in s (read_sign1 s))
    writable_read = rw (claim_read, signature_read) (taken_writable s bytes (facts s (verdict_true s e)).0)

    pub bytes_read : s ≡ sign1_bytes (read_sign1 s).claim (signature_in s (read_sign1 s))
    bytes_read = (facts s (verdict_true s e)).1 ∙ sym (ap₂ sign1_bytes claim_read signature_read)

    -- the signature is the last bytes, as many as the reading says
    pub ends_read : (read_sign1 s).position.0 + (read_sign1 s).length.0 ≡ length s
    unfolding accepted_sign1
    ends_read = ap (λ (q : Sign1Reading). q.position.0 + q.length.0) answer ∙ sym (facts s (verdict_true s e)).0

    pub written_again : (d : List ℕ) → length s ≤ length d
        → (sign1_answer (read_sign1 s).claim (signature_in s (read_sign1 s)) (length d) ≡ written_for Accepted (length s))
        × (sign1_output (read_sign1 s).claim (signature_in s (read_sign1 s)) d ≡ over d 0 s)
    written_again d room =
        let n : length (sign1_bytes r.claim (signature_in s r)) ≡ length s = sym (ap length bytes_read) in
        let f = fine r.claim (signature_in s r) d writable_read.fits (omega arith) in
        (sym f.0 ∙ ap (written_for Accepted) n, sym f.1 ∙ ap (over d 0) (sym bytes_read))

-- ---- the accepted byte strings are exactly the written ones

-- neither 28 nor 14 applies
passes : (f short : Bool) → and_then (choose (not f) (refuse not_sign1 0) Accepted) (choose short (refuse output_too_short 0) Accepted) ≡ Accepted → (f ≡ true) × (short ≡ false)
passes true false e = (refl, refl)
passes true true e = never _ e
passes false short e = never _ e

module _ (c : Claim) (sig d : List ℕ) where
  room_and_fit : (sign1_answer c sig (length d)).verdict ≡ Accepted → (signature_fits c.algorithm (length sig) ≡ true) × (ltb (length d) (length (sign1_bytes c sig)) ≡ false)
  unfolding sign1_answer sign1_verdict
  room_and_fit e = passes (signature_fits c.algorithm (length sig)) (ltb (length d) (length (sign1_bytes c sig))) e

  -- what the answer counts of the output are the claim's bytes
  written_bytes : Writable c sig → length (sign1_bytes c sig) ≤ length d
      → ((sign1_answer c sig (length d)).verdict ≡ Accepted) × (take (sign1_answer c sig (length d)).length (sign1_output c sig d) ≡ sign1_bytes c sig)
  written_bytes w room =
      let p = written_part c sig w d room in (
        ap (λ (a : Written). a.verdict) p.0,
        ap (λ (a : Written). take a.length (sign1_output c sig d)) p.0 ∙ p.1,
      )

module _ (s : List ℕ) where
  pub written_is : IsWritten s → IsSign1 s
  written_is w =
      let c = w.claim in
      let sig = w.signature in
      let h = room_and_fit c sig w.buffer w.accepted in
      let ready : Writable c sig = record { fits = h.0; typed = w.typed } in
      let room : length (sign1_bytes c sig) ≤ length w.buffer = ltb-false (length w.buffer) (length (sign1_bytes c sig)) h.1 in
      record { claim = c; signature = sig; writable = ready; bytes = w.bytes ∙ (written_bytes c sig w.buffer ready room).1 }

  -- into a buffer of its own length
  pub is_written : IsSign1 s → IsWritten s
  is_written i =
      let c = i.claim in
      let sig = i.signature in
      let h = written_bytes c sig (sign1_bytes c sig) i.writable (omega arith) in
      record { claim = c; signature = sig; buffer = sign1_bytes c sig; typed = i.writable.typed; accepted = h.0; bytes = i.bytes ∙ sym h.1 }

  pub accepted_exactly : AreBytes s → ((read_sign1 s).verdict ≡ Accepted → IsWritten s) × (IsWritten s → (read_sign1 s).verdict ≡ Accepted)
  accepted_exactly bytes = (λ e. is_written (accepted_only s bytes e), λ w. accepted_all s (written_is w))

-- no accepted byte string is a proper beginning of another
pub accepted_none_begins : (s t : List ℕ) → AreBytes s → AreBytes t → (read_sign1 s).verdict ≡ Accepted → (read_sign1 (s ++ t)).verdict ≡ Accepted → t ≡ []
accepted_none_begins s t bs bt e f =
    let i = accepted_only s bs e in
    let j = accepted_only (s ++ t) (bytes_append s t bs bt) f in
    none_begins i.claim i.signature i.writable j.claim j.signature j.writable t (sym j.bytes ∙ ap (λ (l : List ℕ). l ++ t) i.bytes)
