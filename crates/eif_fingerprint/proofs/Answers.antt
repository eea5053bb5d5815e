-- The fingerprint of an image by its own reading, and the answer.
use Prim.Native.Nat.{ℕ, ◌^◌, ◌<◌}
use mathlib.Core.Path.{◌≡◌, refl, sym, ap, ap₂, ◌∙◌}
use mathlib.Core.List.{List, []}
use native.Mathlib.Omega.{arith}
use lib.ListN.{length}
use Rattle.octets.specs.Bytes.{AreBytes}
use Rattle.eif.specs.Answers.{beside}
use Rattle.eif.specs.Order.{first_that_applies, image_rules}
use Rattle.eif.specs.Reading.{verdict_of, data_of, read_image}
use Rattle.eif.specs.declared.Reading.{Reading}
use Rattle.eif.specs.declared.Refusal.{Refusal}
use Rattle.eif.specs.declared.Section.{Section}
use Rattle.eif.specs.declared.Verdict.{Verdict}
use Rattle.eif.specs.declared.Verdict.TheVariants.{Accepted, Refused}
use Rattle.eif_laws.proofs.FirstApplies.{read_first}
use Rattle.eif_lemmas.proofs.Reading.{verdict_is}
use Rattle.sha384_block.specs.Fips.{sha384}
use Rattle.staged.specs.Staged.{staged_verdict, afresh}
use Rattle.staged.specs.View.{held_by, staged_view}
use Rattle.staged.specs.declared.Staged.{Staged}
use Rattle.staged.proofs.Held.{held_alone}
use Rattle.roll_writer.proofs.Reading.{bounded, roll_is}
use Rattle.roll_writer.proofs.Staging as staging
use Rattle.eif_fingerprint.specs.Fingerprint.{fingerprint_of, no_fingerprint, fingerprint_answer, staged_fingerprint, roll_digest, read_fingerprint, view_fingerprint}
use Rattle.eif_fingerprint.specs.declared.Fingerprinted.{Fingerprinted}
use Rattle.eif_fingerprint.proofs.Hashed.{roll_hashed}

-- with nothing replaced, the digest over the sections is that over the image
pub digest_alone : (s : List ℕ) (flags : ℕ) (l : List Section) → roll_digest flags (held_by s []) l ≡ roll_digest flags (data_of s) l
digest_alone s flags l = ap (λ (held : Section → List ℕ). roll_digest flags held l) (λ t x. held_alone s x t)

-- ---- any reading

module _ (s : List ℕ) (x : Reading) where
  pub read_refused : (r : Refusal) → x.verdict ≡ Refused r → no_fingerprint ≡ read_fingerprint s x
  unfolding read_fingerprint
  read_refused r e = simp e

  pub read_accepted : x.verdict ≡ Accepted → roll_digest x.flags (data_of s) x.sections ≡ read_fingerprint s x
  unfolding read_fingerprint
  read_accepted e = simp e

-- ---- the image's own reading

module _ (s : List ℕ) (r : Reading) (is : r ≡ read_image s) where
  -- the digest over the sections is the fingerprint
  own_digest : r.verdict ≡ Accepted → roll_digest r.flags (data_of s) r.sections ≡ fingerprint_of s
  unfolding fingerprint_of
  own_digest ok =
      let b = bounded s r is ok in
      roll_hashed (data_of s) r.flags r.sections (omega arith) ∙ ap sha384 (roll_is s r is ok)

  by_verdict : (v : Verdict) → r.verdict ≡ v → read_fingerprint s r ≡ beside v (fingerprint_of s) no_fingerprint
  by_verdict (Refused f) e = sym (read_refused s r f e)
  by_verdict Accepted e = sym (read_accepted s r e) ∙ own_digest e

  digest_is : read_fingerprint s r ≡ beside (verdict_of s) (fingerprint_of s) no_fingerprint
  digest_is = by_verdict (verdict_of s) (verdict_is s r is)

  pub answer_is : {d : List ℕ} → d ≡ read_fingerprint s r → ◌≡◌ {A = Fingerprinted} (record { verdict = r.verdict; digest = d }) (fingerprint_answer s)
  unfolding fingerprint_answer
  answer_is {d} e = ap₂ with (verdict_is s r is) (e ∙ digest_is)
    where
      with : Verdict → List ℕ → Fingerprinted
      with v l = record { verdict = v; digest = l }

-- ---- a staged view

-- any view
module _ (s r : List ℕ) (x : Staged) where
  pub view_refused : (f : Refusal) → x.verdict ≡ Refused f → no_fingerprint ≡ view_fingerprint s r x
  unfolding view_fingerprint
  view_refused f e = simp e

  pub view_accepted : x.verdict ≡ Accepted → roll_digest x.flags (held_by s r) x.sections ≡ view_fingerprint s r x
  unfolding view_fingerprint
  view_accepted e = simp e

-- the base's own, whose flags fit in two bytes
module _ (s r : List ℕ) (k : ℕ) (x : Staged) (is : x ≡ staged_view s (length r) k k) (fit : x.verdict ≡ Accepted → x.flags < 2 ^ 16) where
  view_digest : x.verdict ≡ Accepted → roll_digest x.flags (held_by s r) x.sections ≡ fingerprint_of (afresh s r k)
  unfolding fingerprint_of
  view_digest told =
      let b = staging.bounded s r k x is told in
      roll_hashed (held_by s r) x.flags x.sections (omega arith) ∙ ap sha384 (staging.roll_is s r k x is fit told)

  view_by : (v : Verdict) → x.verdict ≡ v → view_fingerprint s r x ≡ beside v (fingerprint_of (afresh s r k)) no_fingerprint
  view_by (Refused f) e = sym (view_refused s r x f e)
  view_by Accepted e = sym (view_accepted s r x e) ∙ view_digest e

  view_is : view_fingerprint s r x ≡ beside (staged_verdict s (length r) k k) (fingerprint_of (afresh s r k)) no_fingerprint
  view_is = view_by (staged_verdict s (length r) k k) (staging.verdict_is s r k x is)

  pub staged_is : {d : List ℕ} → d ≡ view_fingerprint s r x → ◌≡◌ {A = Fingerprinted} (record { verdict = x.verdict; digest = d }) (staged_fingerprint s r k)
  unfolding staged_fingerprint
  staged_is {d} e = ap₂ with (staging.verdict_is s r k x is) (e ∙ view_is)
    where
      with : Verdict → List ℕ → Fingerprinted
      with v l = record { verdict = v; digest = l }

-- the form over a view agrees with the form over base and replacement, for every base of bytes
pub step_view_agrees : (s r : List ℕ) (k : ℕ) → AreBytes s → view_fingerprint s r (staged_view s (length r) k k) ≡ (staged_fingerprint s r k).digest
unfolding staged_fingerprint
step_view_agrees s r k ws = view_is s r k (staged_view s (length r) k k) refl (staging.flags_fit s r k ws)

module _ (s : List ℕ) where
  -- the form over a reading agrees with the form over the image, for every image
  pub step_agrees : read_fingerprint s (read_image s) ≡ (fingerprint_answer s).digest
  unfolding fingerprint_answer
  step_agrees = digest_is s (read_image s) refl

  -- an image is refused for the first of its rules that applies
  pub fingerprint_first : (fingerprint_answer s).verdict ≡ first_that_applies (image_rules s)
  unfolding fingerprint_answer
  fingerprint_first = read_first s
