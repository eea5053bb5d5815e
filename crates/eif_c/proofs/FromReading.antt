-- With the reading that `eif_read` answers for an image, the calls of readings.rt answer as the calls that read the image themselves, for every
-- image: the flat form of a reader's reading, handed in again, is that reading.
use Prim.Native.Nat.{ℕ, zero, suc}
use mathlib.Core.Path.{◌≡◌, refl, sym, ap, ap₂, ◌∙◌}
use mathlib.Core.Bool.{Bool, true, false}
use mathlib.Core.List.{List, [], ◌∷◌, map}
use lib.Dec.{eqb}
use lib.ListN.{length}
use Rattle.octets.specs.Logic.{choose}
use Rattle.eif.specs.Answers.{number_of, index_of, position_of, refuse_at, verdict_at, whole_at, whole_verdict, and_then}
use Rattle.eif.specs.Rules.{first_refusal, first_fault, missing_fault}
use Rattle.eif.specs.Layout.{View, view_of, version, count, start, checksum_at}
use Rattle.eif.specs.Reading.{header_fault, section_fault, tail_fault, checksum_fault, checksum_of, located, judged, early, verdict_in, read_image}
use Rattle.eif.specs.Roll.{roll_answer, roll_output, roll_length}
use Rattle.eif.specs.declared.Reading.{Reading}
use Rattle.eif.specs.declared.Section.{Section}
use Rattle.eif.specs.declared.Verdict.{Verdict}
use Rattle.eif.specs.declared.Verdict.TheVariants.{Accepted, Refused}
use Rattle.eif.specs.declared.Written.{Written}
use Rattle.eif_lemmas.proofs.Reading.{reading_verdict}
use Rattle.eif_flat.specs.Flat.{flat_section, flat_reading, flat_written, read_section}
use Rattle.eif_fingerprint.specs.Fingerprint.{fingerprint_answer}
use Rattle.eif_fingerprint.specs.declared.Fingerprinted.{Fingerprinted}
use Rattle.eif_fingerprint.proofs.Answers as fingerprint
use Rattle.roll_writer.specs.Write.{listed_roll_answer, listed_roll_output, listed_roll_length}
use Rattle.roll_writer.proofs.Reading as roll
use Rattle.staged.specs.Listed.{listed_place}
use Rattle.staged.specs.View.{staged_place}
use Rattle.staged.specs.declared.StagedPart.{StagedPart}
use Rattle.staged.proofs.Listed as staged
use Rattle.eif_c.specs.Fingerprint.{flat_fingerprint}
use Rattle.eif_c.specs.Staging.{flat_part}
use Rattle.eif_c.specs.Readings.{given_reading, fingerprinted_by}

-- ---- a reader's refusal has a number other than 0

abbrev accepts : Verdict → Bool
accepts Accepted = true
accepts (Refused r) = false

-- the number is 0 exactly where the verdict accepts
abbrev Numbered : Verdict → Type 0
Numbered v = eqb (number_of v) 0 ≡ accepts v

at_numbered : (n i p : ℕ) → Numbered (verdict_at n i p)
at_numbered n i p = by (eqb n 0) refl
  where
    by : (b : Bool) → eqb n 0 ≡ b → Numbered (choose b Accepted (refuse_at n i p))
    by true e = refl
    by false e = e

then_numbered : (v w : Verdict) → Numbered v → Numbered w → Numbered (and_then v w)
then_numbered Accepted w a b = b
then_numbered (Refused r) w a b = a

first_numbered : (f : ℕ → Verdict) → ((i : ℕ) → Numbered (f i)) → (n i : ℕ) → Numbered (first_refusal f n i)
unfolding first_refusal
first_numbered f h zero i = refl
first_numbered f h (suc n) i = then_numbered (f i) (first_refusal f n (suc i)) (h i) (first_numbered f h n (suc i))

located_numbered : (header : ℕ → ℕ → ℕ) (v : Verdict) → Numbered v → Numbered (located header v)
located_numbered header Accepted h = h
located_numbered header (Refused r) h = h

judged_numbered : (v : View) → Numbered (judged v)
unfolding judged
judged_numbered v =
    then_numbered (whole_verdict (header_fault v))
    (and_then (first_fault (section_fault v) (count v) 0) (whole_verdict (missing_fault v.kind (version v) (count v))))
    (at_numbered (header_fault v) 0 0)
    (then_numbered (first_fault (section_fault v) (count v) 0) (whole_verdict (missing_fault v.kind (version v) (count v)))
    (first_numbered (λ (j : ℕ). verdict_at (section_fault v j) j 0) (λ (j : ℕ). at_numbered (section_fault v j) j 0) (count v) 0)
    (at_numbered (missing_fault v.kind (version v) (count v)) 0 0))

early_numbered : (v : View) → Numbered (early v)
unfolding early
early_numbered v =
    then_numbered (located v.header (judged v)) (whole_at (tail_fault v) (start v (count v)))
    (located_numbered v.header (judged v) (judged_numbered v))
    (at_numbered (tail_fault v) 0 (start v (count v)))

verdict_numbered : (v : View) (computed : ℕ) → Numbered (verdict_in v computed)
unfolding verdict_in
verdict_numbered v computed =
    then_numbered (early v) (whole_at (checksum_fault v computed) checksum_at) (early_numbered v) (at_numbered (checksum_fault v computed) 0 checksum_at)

-- ---- a flat reading, handed in again

verdict_back : (v : Verdict) → Numbered v → verdict_at (number_of v) (index_of v) (position_of v) ≡ v
verdict_back Accepted h = refl
verdict_back (Refused r) h = simp h

sections_back : (l : List Section) → map read_section (map flat_section l) ≡ l
sections_back [] = refl
sections_back (x ∷ xs) = ap (λ (l : List Section). x ∷ l) (sections_back xs)

-- every reading whose refusal has a number other than 0
pub given_flat : (r : Reading) → Numbered r.verdict → given_reading (flat_reading r) ≡ r
given_flat r h = ap₂ with (verdict_back r.verdict h) (sections_back r.sections)
  where
    with : Verdict → List Section → Reading
    with v l =
        record {
          verdict = v;
          version = r.version;
          flags = r.flags;
          architecture = r.architecture;
          default_mem = r.default_mem;
          default_cpus = r.default_cpus;
          count = r.count;
          sections = l;
          ramdisk_mark = r.ramdisk_mark;
        }

module _ (s : List ℕ) where
  -- the reading that the reader answers
  pub given_read : given_reading (flat_reading (read_image s)) ≡ read_image s
  given_read =
      let e = reading_verdict s in
      given_flat (read_image s)
      (ap (λ (v : Verdict). eqb (number_of v) 0) e ∙ verdict_numbered (view_of s) (checksum_of s) ∙ sym (ap (λ (v : Verdict). accepts v) e))

  -- ---- both forms agree, for every image

  fingerprinted_is : fingerprinted_by s (read_image s) ≡ fingerprint_answer s
  unfolding fingerprint_answer
  fingerprinted_is = ap₂ with (reading_verdict s) (fingerprint.step_agrees s)
    where
      with : Verdict → List ℕ → Fingerprinted
      with v l = record { verdict = v; digest = l }

  pub fingerprint_agrees : flat_fingerprint (fingerprinted_by s (given_reading (flat_reading (read_image s)))) ≡ flat_fingerprint (fingerprint_answer s)
  fingerprint_agrees = ap (λ (f : Fingerprinted). flat_fingerprint f) (ap (fingerprinted_by s) given_read ∙ fingerprinted_is)

  pub roll_length_agrees : flat_written (listed_roll_length s (given_reading (flat_reading (read_image s)))) ≡ flat_written (roll_length s)
  roll_length_agrees = ap (λ (w : Written). flat_written w) (ap (listed_roll_length s) given_read ∙ roll.length_agrees s)

  pub roll_answer_agrees : (room : ℕ) → flat_written (listed_roll_answer s (given_reading (flat_reading (read_image s))) room) ≡ flat_written (roll_answer s room)
  roll_answer_agrees room =
      ap (λ (w : Written). flat_written w) (ap (λ (x : Reading). listed_roll_answer s x room) given_read ∙ roll.write_agrees s room)

  pub roll_output_agrees : (d : List ℕ) → listed_roll_output s (given_reading (flat_reading (read_image s))) d ≡ roll_output s d
  roll_output_agrees d = ap (λ (x : Reading). listed_roll_output s x d) given_read ∙ roll.output_agrees s d

  pub staged_part_agrees : (size k j : ℕ) → flat_part (listed_place (given_reading (flat_reading (read_image s))) (length s) size k j) ≡ flat_part (staged_place s size k j)
  staged_part_agrees size k j =
      ap (λ (p : StagedPart). flat_part p) (ap (λ (x : Reading). listed_place x (length s) size k j) given_read ∙ staged.place_agrees s size k j)
