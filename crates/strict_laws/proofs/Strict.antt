-- The stricter reading accepts exactly where the ordinary one does and the data of each metadata section is one JSON text, as the
-- grammar says it; otherwise its answer is the ordinary one's, or 21. And its refusal is the first that applies in its order.
-- Assumes nothing.
use Prim.Native.Nat.{ℕ}
use mathlib.Core.Path.{◌≡◌, refl, sym, ap, ◌∙◌}
use mathlib.Core.List.{List}
use mathlib.Core.Logic.{◌⊎◌, inl, inr, ⊎_elim}
use native.Mathlib.Omega.{arith}
use Rattle.eif.specs.Table.{join_from}
use Rattle.eif.specs.Numbers.{metadata_version}
use Rattle.eif.specs.Layout.{view_of, count_of, version_of}
use Rattle.eif.specs.Reading.{verdict_of, section_at, reading_of, read_view, read_image}
use Rattle.eif.specs.Acceptance.{MeetsRules}
use Rattle.eif.specs.Order.{first_that_applies, image_rules}
use Rattle.eif.specs.declared.Verdict.{Verdict}
use Rattle.eif.specs.declared.Verdict.TheVariants.{Accepted, Refused}
use Rattle.eif_lemmas.proofs.Reading.{verdict_kept}
use Rattle.eif_laws.proofs.Acceptance as acceptance
use Rattle.eif_laws.proofs.FirstApplies.{walk_first, read_first, then_first}
use Rattle.strict_reader.specs.Strict.{MetadataIsJson, metadata_verdict, strict_verdict, read_strict, metadata_rules, strict_rules, text_verdict}
use Rattle.strict_reader.proofs.Grammar.{Fails, pass_or_fail, strict→, →strict, first_failed}
use Rattle.strict_laws.specs.Refused.{Refused21}

-- ---- the laws

module _ (s : List ℕ) where
  -- accepted exactly where the ordinary reading accepts and the metadata is JSON
  pub strict_exactly_when : (strict_verdict s ≡ Accepted → (verdict_of s ≡ Accepted) × MetadataIsJson s)
      × ((verdict_of s ≡ Accepted) × MetadataIsJson s → strict_verdict s ≡ Accepted)
  strict_exactly_when = (strict→ s, λ p. →strict s p.0 p.1)

  -- the same with the rules of an image in the place of the ordinary reading
  pub strict_meets : (strict_verdict s ≡ Accepted → MeetsRules s × MetadataIsJson s) × (MeetsRules s × MetadataIsJson s → strict_verdict s ≡ Accepted)
  strict_meets =
      (λ e. ((acceptance.accepted_exactly_when s).0 (strict→ s e).0, (strict→ s e).1), λ p. →strict s ((acceptance.accepted_exactly_when s).1 p.0) p.1)

  refused_21 : verdict_of s ≡ Accepted → Fails s (section_at s) (count_of s) 0 → Refused21 s
  unfolding strict_verdict
  refused_21 a f =
      let k = first_failed s f in
      record { ordinary = a; index = f.index; is_section = k.is_section; is_metadata = k.is_metadata; no_text = k.no_text; strict = rw a f.verdict }

  same_or : (v : Verdict) → verdict_of s ≡ v → (strict_verdict s ≡ verdict_of s) ⊎ Refused21 s
  unfolding strict_verdict
  same_or (Refused r) e = inl (rw e refl)
  same_or Accepted e =
      ⊎_elim (λ p. inl (rw e p)) (λ f. inr (refused_21 e f)) (pass_or_fail s (section_at s) (count_of s) 0)

  -- the verdict is the ordinary one, or 21 at a metadata section whose data is no text
  pub same_or_21 : (strict_verdict s ≡ verdict_of s) ⊎ Refused21 s
  same_or_21 = same_or (verdict_of s) refl

-- where the verdict is the ordinary one, so is the whole reading
pub strict_same : (s : List ℕ) → strict_verdict s ≡ verdict_of s → read_strict s ≡ read_image s
unfolding read_strict read_view
strict_same s e = ap (reading_of (view_of s)) e

-- no accepted image of another version than 4 has metadata, so both readings of it are the same; of a refused one they are the same too
pub no_metadata_same : (s : List ℕ) → (version_of s ≡ metadata_version → ⊥) → read_strict s ≡ read_image s
no_metadata_same s other = ⊎_elim (λ e. strict_same s e) (λ f. absurd (none f)) (same_or_21 s)
  where
    none : Refused21 s → ⊥
    none f =
        let m = (acceptance.accepted_exactly_when s).0 f.ordinary in
        let k = f.is_metadata in
        let v = m.known_version.1 in
        ⊎_elim
        (λ a. let b = a.1 in omega arith)
        (λ a. ⊎_elim (λ b. let c = b.0 in omega arith) (λ b. let c = b.1 in other (omega arith)) a)
        (m.types_allowed f.index f.is_section)

-- ---- the refusal is the first that applies

metadata_first : (s : List ℕ) → first_that_applies (join_from (metadata_rules s) (count_of s) 0) ≡ metadata_verdict s (section_at s) (count_of s) 0
unfolding text_verdict first_that_applies
metadata_first s = walk_first (λ v. v) refl (λ v w. refl) (metadata_rules s) (λ j. text_verdict s (section_at s j) j) (λ i. refl) (count_of s) 0

pub strict_first : (s : List ℕ) → strict_verdict s ≡ first_that_applies (strict_rules s)
unfolding strict_verdict strict_rules
strict_first s = then_first (image_rules s) (join_from (metadata_rules s) (count_of s) 0) (read_first s) (sym (metadata_first s))

-- the reading carries that verdict
pub strict_verdict_holds : (s : List ℕ) → (read_strict s).verdict ≡ strict_verdict s
unfolding read_strict
strict_verdict_holds s = verdict_kept (view_of s) (strict_verdict s)

pub read_strict_first : (s : List ℕ) → (read_strict s).verdict ≡ first_that_applies (strict_rules s)
read_strict_first s = strict_verdict_holds s ∙ strict_first s
