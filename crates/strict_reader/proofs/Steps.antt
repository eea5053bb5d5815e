-- The stricter reading, a law for each step of the code.
-- Assumes nothing.
use Prim.Native.Nat.{ℕ, ◌+◌, ◌-◌, ◌<◌, ◌≤◌}
use mathlib.Core.Path.{◌≡◌, refl, sym, ap, ◌∙◌}
use mathlib.Core.Bool.{true, false}
use mathlib.Core.List.{List}
use native.Mathlib.Omega.{arith}
use borrow.Author.Tests.{eq-eqb, ne_eqb}
use Rattle.std.specs.Prelude.{is_err}
use Rattle.json_grammar.specs.Verdict.{JsonVerdict}
use Rattle.json_machine.specs.Machine.{json_verdict}
use Rattle.eif.specs.Numbers.{place_count, metadata}
use Rattle.eif.specs.Layout.{view_of, count_of}
use Rattle.eif.specs.Reading.{verdict_of, section_at, data_of, blank_reading, reading_of, read_view, read_image, section_in}
use Rattle.eif.specs.declared.Reading.{Reading}
use Rattle.eif.specs.declared.Refusal.{Refusal}
use Rattle.eif.specs.declared.Section.{Section}
use Rattle.eif.specs.declared.Verdict.{Verdict}
use Rattle.eif.specs.declared.Verdict.TheVariants.{Accepted, Refused}
use Rattle.eif_lemmas.proofs.Accept.{passes}
use Rattle.eif_lemmas.proofs.Reading.{reading_section, verdict_is, told_accepted, reading_is, count_is}
use Rattle.eif_lemmas.proofs.Verdicts.{refusal_stop, refusal_on, refusal_same}
use Rattle.eif.specs.Rules.{first_refusal}
use Rattle.strict_reader.specs.Strict.{not_json, refuse_metadata, metadata_verdict, strict_verdict, read_strict, text_verdict}

-- ---- one section

module _ (s : List ℕ) (x : Section) where
  pub other_type : (x.kind ≡ metadata → ⊥) → false ≡ not_json s x
  unfolding not_json
  other_type n = simp (ne_eqb _ _ n)

  pub metadata_by : x.kind ≡ metadata → (v : JsonVerdict) → v ≡ json_verdict (data_of s x) → is_err v ≡ not_json s x
  unfolding not_json
  metadata_by e v i = simp (eq-eqb _ _ e, sym i)

-- ---- the sections

module _ (s : List ℕ) (sections : ℕ → Section) (count i : ℕ) (h : i < count) where
  pub metadata_stop : true ≡ not_json s (sections i) → refuse_metadata (sections i) i ≡ metadata_verdict s sections (count - i) i
  unfolding text_verdict
  metadata_stop e = refusal_stop (λ j. text_verdict s (sections j) j) i count h _ (simp (sym e))

  pub metadata_on : false ≡ not_json s (sections i) → metadata_verdict s sections (count - i) i ≡ metadata_verdict s sections (count - (i + 1)) (i + 1)
  unfolding text_verdict
  metadata_on e = refusal_on (λ j. text_verdict s (sections j) j) i count h (simp (sym e))

pub metadata_none : (s : List ℕ) (sections : ℕ → Section) (count i : ℕ) → count ≤ i → Accepted ≡ metadata_verdict s sections (count - i) i
unfolding first_refusal
metadata_none s sections count i h = let z : count - i ≡ 0 = omega arith in rw z refl

-- ---- the reading

module _ (s : List ℕ) (r : Reading) (is : r ≡ read_image s) where
  pub strict_refused : (f : Refusal) → r.verdict ≡ Refused f → r ≡ read_strict s
  unfolding read_strict strict_verdict read_view
  strict_refused f e = let z : verdict_of s ≡ Refused f = sym (verdict_is s r is) ∙ e in is ∙ simp z

  module _ (ok : r.verdict ≡ Accepted) where
    abbrev good : verdict_of s ≡ Accepted
    good = told_accepted s r is ok

    pub count_small : r.count ≤ place_count
    count_small = let p = (passes s good).head.fields.few in let e = count_is s r is ok in omega arith

    place_is : (i : ℕ) → i < count_of s → section_in r.sections i ≡ section_at s i
    place_is i h = ap (λ (x : Reading). section_in x.sections i) is ∙ reading_section s good i h

    -- the sections of the reading are judged as those of the file
    judged_is : metadata_verdict s (section_in r.sections) r.count 0 ≡ metadata_verdict s (section_at s) (count_of s) 0
    judged_is =
        ap (λ (n : ℕ). metadata_verdict s (section_in r.sections) n 0) (count_is s r is ok)
        ∙ refusal_same (λ j. text_verdict s (section_in r.sections j) j) (λ j. text_verdict s (section_at s j) j) (count_of s) 0 (λ k l. absurd (omega arith))
        (λ j l good. ap (λ (x : Section). text_verdict s x j) (place_is j (omega arith)))

    module _ (v : Verdict) (j : v ≡ metadata_verdict s (section_in r.sections) r.count 0) where
      strict_is : strict_verdict s ≡ v
      unfolding strict_verdict
      strict_is = rw good (sym judged_is ∙ sym j)

      pub strict_blank : (f : Refusal) → v ≡ Refused f → blank_reading v ≡ read_strict s
      unfolding read_strict
      strict_blank f e = let z : strict_verdict s ≡ Refused f = strict_is ∙ e in rw (e, z) refl

      pub strict_whole : v ≡ Accepted → r ≡ read_strict s
      unfolding read_strict
      strict_whole e = let z : strict_verdict s ≡ Accepted = strict_is ∙ e in reading_is s r is ok ∙ sym (ap (reading_of (view_of s)) z)
