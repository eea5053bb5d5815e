-- The steps of reading: all rules but 13 from what each step before answered, then 13; what a reading's verdict is; and what one
-- has that accepts.
-- Assumes nothing.
use Prim.Native.Nat.{ℕ, ◌<◌}
use mathlib.Core.Path.{◌≡◌, refl, sym, ap, ◌∙◌}
use mathlib.Core.List.{List}
use borrow.Author.Tests.{lt-ltb, eq-eqb, ne_eqb}
use Rattle.eif.specs.Numbers.{size_limit, image_too_long, checksum_differs}
use Rattle.eif.specs.Answers.{refuse, refuse_at}
use Rattle.eif.specs.Rules.{first_fault}
use Rattle.eif.specs.Layout.{checksum_at, View, view_of, count, checksum, count_of, header_flags_of}
use Rattle.eif.specs.Reading.{header_fault, section_fault, checksum_fault, position_in, located, judged, early, verdict_in, verdict_of, blank_reading, reading_of, read_view, read_image, section_in, section_at, sections_of}
use Rattle.eif.specs.declared.Reading.{Reading}
use Rattle.eif.specs.declared.Refusal.{Refusal}
use Rattle.eif.specs.declared.Verdict.{Verdict}
use Rattle.eif.specs.declared.Verdict.TheVariants.{Accepted, Refused}
use Rattle.eif_lemmas.proofs.Accept.{section_is}

module _ (v : View) where
  pub early_header : (header_fault v ≡ 0 → ⊥) → located v.header (refuse (header_fault v) 0) ≡ early v
  unfolding early judged
  early_header h = simp (ne_eqb _ _ h)

  module _ (clean : header_fault v ≡ 0) where
    pub early_walk : (r : Refusal) → first_fault (section_fault v) (count v) 0 ≡ Refused r → located v.header (Refused r) ≡ early v
    unfolding early judged
    early_walk r e = simp (clean, e)

-- ---- the rule 13

module _ (v : View) (computed : ℕ) where
  pub read_refused : (r : Refusal) → early v ≡ Refused r → blank_reading (Refused r) ≡ read_view v computed
  unfolding read_view verdict_in
  read_refused r e = simp e

  module _ (accepted : early v ≡ Accepted) where
    pub read_differs : (checksum v ≡ computed → ⊥) → blank_reading (refuse_at checksum_differs 0 checksum_at) ≡ read_view v computed
    unfolding read_view verdict_in checksum_fault
    read_differs h = simp (accepted, ne_eqb _ _ h)

    pub read_accepted : checksum v ≡ computed → reading_of v Accepted ≡ read_view v computed
    unfolding read_view verdict_in checksum_fault
    read_accepted h = simp (accepted, eq-eqb _ _ h)

pub verdict_kept : (v : View) (x : Verdict) → (reading_of v x).verdict ≡ x
verdict_kept v Accepted = refl
verdict_kept v (Refused r) = refl

-- ---- what callers need of a reading

pub reading_verdict : (s : List ℕ) → (read_image s).verdict ≡ verdict_of s
unfolding read_view
reading_verdict s = verdict_kept (view_of s) (verdict_of s)

-- longer than an image may be: refused for that, whatever the checksum
pub read_too_long : (v : View) (computed : ℕ) → size_limit < v.size → read_view v computed ≡ blank_reading (refuse image_too_long 0)
unfolding read_view verdict_in early judged header_fault position_in
read_too_long v computed h = simp (lt-ltb size_limit v.size h)

pub reading_accepted : (s : List ℕ) → verdict_of s ≡ Accepted → read_image s ≡ reading_of (view_of s) Accepted
unfolding read_view
reading_accepted s e = ap (reading_of (view_of s)) e

pub reading_section : (s : List ℕ) → verdict_of s ≡ Accepted → (i : ℕ) → i < count_of s → section_in (read_image s).sections i ≡ section_at s i
reading_section s e i h = ap (λ (x : Reading). section_in x.sections i) (reading_accepted s e) ∙ section_is s e i h

module _ (s : List ℕ) (r : Reading) (is : r ≡ read_image s) where
  pub verdict_is : r.verdict ≡ verdict_of s
  verdict_is = ap (λ (x : Reading). x.verdict) is ∙ reading_verdict s

  module _ (told : r.verdict ≡ Accepted) where
    pub told_accepted : verdict_of s ≡ Accepted
    told_accepted = sym verdict_is ∙ told

    pub reading_is : r ≡ reading_of (view_of s) Accepted
    reading_is = is ∙ reading_accepted s told_accepted

    pub flags_are : r.flags ≡ header_flags_of s
    flags_are = ap (λ (x : Reading). x.flags) reading_is

    pub count_is : r.count ≡ count_of s
    count_is = ap (λ (x : Reading). x.count) reading_is

    pub sections_are : r.sections ≡ sections_of s
    sections_are = ap (λ (x : Reading). x.sections) reading_is
