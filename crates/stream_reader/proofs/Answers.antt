-- The answers of copying and of a stream's length, by what the image's verdict is and where the position stands.
-- Assumes nothing.
use Prim.Native.Nat.{ℕ, ◌-◌, ◌<◌, ◌≤◌, min, ◌^◌, ◌*◌}
use mathlib.Core.Path.{◌≡◌, ap, ◌∙◌}
use mathlib.Core.List.{List}
use native.Mathlib.Omega.{arith}
use borrow.Author.Tests.{lt-ltb, le-ltb}
use lib.ListN.{length, take, drop, length-take, length-drop}
use Rattle.octets.specs.Over.{over}
use Rattle.octets.proofs.Over.{over_clip}
use Rattle.eif.specs.Numbers.{place_count, size_limit, past_stream_end}
use Rattle.eif.specs.Answers.{refuse}
use Rattle.eif.specs.Layout.{view_of, count_of}
use Rattle.eif.specs.Reading.{section, blank_section, verdict_of, read_image, section_kind}
use Rattle.eif.specs.Stream.{stream_sections, sections_answer, sections_data, stream_of, listed_bytes, copied_for, copy_verdict, copy_answer, copy_output, copy_listed_answer, copy_listed_output, length_for, length_answer}
use Rattle.eif.specs.declared.Copied.{Copied}
use Rattle.eif.specs.declared.Reading.{Reading}
use Rattle.eif.specs.declared.Refusal.{Refusal}
use Rattle.eif.specs.declared.Section.{Section}
use Rattle.eif.specs.declared.Stream.{Stream}
use Rattle.eif.specs.declared.StreamSections.{StreamSections}
use Rattle.eif.specs.declared.Verdict.TheVariants.{Accepted, Refused}
use Rattle.eif_lemmas.proofs.Table.{length_filled, take_table}
use Rattle.eif_lemmas.proofs.Reading.{told_accepted, sections_are}
use Rattle.eif_lemmas.proofs.Accept.{passes}
use Rattle.stream_laws.proofs.Sections.{kept_fits}
use Rattle.stream_reader.proofs.Listed.{joined_bound}

-- ---- from listed sections

module _ (s : List ℕ) (list : StreamSections) (from : ℕ) (d : List ℕ) where
  -- the answer is c, and the output is o
  abbrev pub ListedAnswers : Copied → List ℕ → Type 0
  ListedAnswers c o = (c ≡ copy_listed_answer s list from (length d)) × (o ≡ copy_listed_output s list from d)

  abbrev bytes : List ℕ
  bytes = listed_bytes s list

  pub listed_past : length bytes < from → ListedAnswers (copied_for (refuse past_stream_end 0) 0) d
  unfolding copy_listed_answer copy_listed_output
  listed_past h = (simp (lt-ltb _ _ h), simp (lt-ltb _ _ h))

  pub listed_within : from ≤ length bytes → ListedAnswers (copied_for Accepted (min (length d) (length bytes - from))) (over d 0 (drop from bytes))
  unfolding copy_listed_answer copy_listed_output
  listed_within h =
      let n : length (take (length d) (drop from bytes)) ≡ min (length d) (length bytes - from) = simp (length-take, length-drop) in
      let z : length d - 0 ≡ length d = omega arith in
      let o = over_clip d 0 (drop from bytes) ∙ ap (λ (k : ℕ). over d 0 (take k (drop from bytes))) z in
      (simp (le-ltb _ _ h, n), o ∙ simp (le-ltb _ _ h))

-- ---- from a stream of an image

-- the sections of a stream as they are listed, and their bytes
pub listed_are : (stream : Stream) (l : List Section) → take (sections_answer stream l).count (sections_answer stream l).sections ≡ stream_sections stream l
unfolding sections_answer
listed_are stream l = take_table blank_section (stream_sections stream l)

pub listed_is : (s : List ℕ) (stream : Stream) (l : List Section) → listed_bytes s (sections_answer stream l) ≡ sections_data s (stream_sections stream l)
unfolding listed_bytes
listed_is s stream l = ap (sections_data s) (listed_are stream l)

-- no more than 32 images' bytes
pub stream_bound : (s : List ℕ) (stream : Stream) (l : List Section) → length s ≤ size_limit → length l ≡ place_count → length (sections_data s (stream_sections stream l)) ≤ place_count * size_limit
stream_bound s stream l h e =
    let j = joined_bound s (stream_sections stream l) size_limit h in
    omega (arith, kept_fits stream section_kind 0 l)

module _ (s : List ℕ) (stream : Stream) where
  pub length_refused : (r : Refusal) → verdict_of s ≡ Refused r → length_for (Refused r) 0 ≡ length_answer s stream
  unfolding length_answer
  length_refused r e = simp e

  pub length_accepted : verdict_of s ≡ Accepted → length_for Accepted (length (stream_of s stream)) ≡ length_answer s stream
  unfolding length_answer
  length_accepted e = simp e

  module _ (from : ℕ) (d : List ℕ) where
    -- the answer is c, and the output is o
    abbrev pub CopyAnswers : Copied → List ℕ → Type 0
    CopyAnswers c o = (c ≡ copy_answer s stream from (length d)) × (o ≡ copy_output s stream from d)

    pub copy_refused : (r : Refusal) → verdict_of s ≡ Refused r → CopyAnswers (copied_for (Refused r) 0) d
    unfolding copy_answer copy_output copy_verdict
    copy_refused r e = (simp e, simp e)

-- ---- of the reading of an image

module _ (s : List ℕ) (r : Reading) (is : r ≡ read_image s) where
  module _ (told : r.verdict ≡ Accepted) (stream : Stream) where
    abbrev ok : verdict_of s ≡ Accepted
    ok = told_accepted s r is told

    pub stream_is : listed_bytes s (sections_answer stream r.sections) ≡ stream_of s stream
    unfolding stream_of
    stream_is = listed_is s stream r.sections ∙ ap (λ (l : List Section). sections_data s (stream_sections stream l)) (sections_are s r is told)

    -- so the sum of its sections' lengths fits 64 bits
    pub stream_fits : length (listed_bytes s (sections_answer stream r.sections)) < 2 ^ 64
    stream_fits =
        let l = r.sections in
        let n : length l ≡ place_count = ap length (sections_are s r is told) ∙ length_filled (section (view_of s)) blank_section place_count (count_of s) in
        let b = stream_bound s stream l (passes s ok).head.small n in
        omega (arith, ap length (listed_is s stream l))

    module _ (from : ℕ) (d : List ℕ) where
      pub answer_is : copy_listed_answer s (sections_answer stream r.sections) from (length d) ≡ copy_answer s stream from (length d)
      unfolding copy_listed_answer copy_answer copy_verdict
      answer_is = simp (stream_is, ok)

      pub output_is : copy_listed_output s (sections_answer stream r.sections) from d ≡ copy_output s stream from d
      unfolding copy_listed_output copy_output copy_verdict
      output_is = simp (stream_is, ok)
