-- The stricter reading, said of the grammar: where it is the ordinary one, and where it is 21.
use Prim.Native.Nat.{ℕ, zero, suc, ◌+◌, ◌<◌, ◌≤◌}
use mathlib.Core.Path.{◌≡◌, refl, sym, ap, ◌∙◌}
use mathlib.Core.Bool.{Bool, true, false, false≢true}
use mathlib.Core.List.{List}
use mathlib.Core.Logic.{◌⊎◌, inl, inr, ⊎_elim}
use native.Mathlib.Omega.{arith}
use native.Mathlib.Nat.{eq-or-lt_of_le}
use borrow.Author.Tests.{eq-eqb, eqb-true}
use lib.Dec.{eqb}
use Rattle.std.specs.Prelude.{is_err}
use Rattle.std.specs.declared.result.Result.TheVariants.{Ok, Err}
use Rattle.json_grammar.specs.Verdict.{IsText, JsonVerdict, Text}
use Rattle.json_machine.specs.Machine.{json_verdict}
use Rattle.json_laws.proofs.Laws.{accepted_exactly_when}
use Rattle.octets.specs.Logic.{both}
use Rattle.octets.proofs.Logic.{both_true, true_or_false}
use Rattle.eif.specs.Numbers.{metadata}
use Rattle.eif.specs.Layout.{view_of, count_of}
use Rattle.eif.specs.Reading.{verdict_of, section_at, data_of, reading_of, read_view}
use Rattle.eif.specs.Rules.{first_refusal}
use Rattle.eif.specs.declared.Section.{Section}
use Rattle.eif.specs.declared.Verdict.{Verdict}
use Rattle.eif.specs.declared.Verdict.TheVariants.{Accepted, Refused}
use Rattle.eif_lemmas.proofs.Verdicts.{never, then_accepted, refused_not, refusal_none→, →refusal-none}
use Rattle.strict_reader.specs.Strict.{MetadataIsJson, not_json, refuse_metadata, metadata_verdict, strict_verdict, read_strict, text_verdict, FirstNotText, StrictlyRead}

-- ---- one section: the test says what the grammar says

text_if_ok : (v : JsonVerdict) → is_err v ≡ false → v ≡ Text
text_if_ok (Ok x) e = refl
text_if_ok (Err f) e = absurd (false≢true (sym e))

module _ (s : List ℕ) (x : Section) where
  abbrev verdict : JsonVerdict
  verdict = json_verdict (data_of s x)

  passed→ : not_json s x ≡ false → x.kind ≡ metadata → IsText (data_of s x)
  unfolding not_json
  passed→ e k =
      let n : is_err verdict ≡ false = simp (eq-eqb _ _ k) at e in
      (accepted_exactly_when (data_of s x)).0 (text_if_ok verdict n)

  →passed : (x.kind ≡ metadata → IsText (data_of s x)) → not_json s x ≡ false
  unfolding not_json
  →passed f = go (eqb x.kind metadata) refl
    where
      go : (b : Bool) → eqb x.kind metadata ≡ b → both b (is_err (json_verdict (data_of s x))) ≡ false
      go true e = simp ((accepted_exactly_when (data_of s x)).1 (f (eqb-true _ _ e)))
      go false e = refl

  failed→ : not_json s x ≡ true → (x.kind ≡ metadata) × (IsText (data_of s x) → ⊥)
  unfolding not_json
  failed→ e =
      let b = both_true _ _ e in
      (eqb-true _ _ b.0, λ t. let i = (accepted_exactly_when (data_of s x)).1 t in false≢true (sym (ap is_err i) ∙ b.1))

-- ---- the sections

module _ (s : List ℕ) (sections : ℕ → Section) where
  all_pass→ : (n i : ℕ) → metadata_verdict s sections n i ≡ Accepted → (j : ℕ) → i ≤ j → j < i + n → not_json s (sections j) ≡ false
  unfolding text_verdict
  all_pass→ n i e j a b = (refused_not _ _ _ (refusal_none→ (λ k. text_verdict s (sections k) k) n i e j a b)).0

  →all-pass : (n i : ℕ) → ((j : ℕ) → i ≤ j → j < i + n → not_json s (sections j) ≡ false) → metadata_verdict s sections n i ≡ Accepted
  unfolding text_verdict
  →all-pass n i h = →refusal-none (λ k. text_verdict s (sections k) k) n i (λ j a b. simp (h j a b))

  -- a section that fails, and the verdict on it
  pub record Fails (n i : ℕ) : Type 0 where
    pub index : ℕ
    pub from : i ≤ index
    pub to : index < i + n
    pub fails : not_json s (sections index) ≡ true
    pub before : (j : ℕ) → i ≤ j → j < index → not_json s (sections j) ≡ false
    pub verdict : metadata_verdict s sections n i ≡ refuse_metadata (sections index) index

  fails_here : (n i : ℕ) → not_json s (sections i) ≡ true → Fails (suc n) i
  unfolding first_refusal text_verdict
  fails_here n i e = record { index = i; from = omega arith; to = omega arith; fails = e; before = λ j x y. absurd (omega arith); verdict = simp e }

  fails_later : (n i : ℕ) → not_json s (sections i) ≡ false → Fails n (suc i) → Fails (suc n) i
  unfolding first_refusal text_verdict
  fails_later n i e f =
      let a = f.from in
      let b = f.to in
      record {
        index = f.index;
        from = omega arith;
        to = omega arith;
        fails = f.fails;
        before = λ j x y. ⊎_elim (λ (k : i ≡ j). rw (sym k) e) (λ (k : i < j). f.before j k y) (eq-or-lt_of_le x);
        verdict = simp e f.verdict;
      }

  pub pass_or_fail : (n i : ℕ) → (metadata_verdict s sections n i ≡ Accepted) ⊎ Fails n i
  unfolding first_refusal text_verdict
  pass_or_fail zero i = inl refl
  pass_or_fail (suc n) i =
      ⊎_elim
      (λ (e : not_json s (sections i) ≡ true). inr (fails_here n i e))
      (λ (e : not_json s (sections i) ≡ false). ⊎_elim (λ p. inl (simp e p)) (λ f. inr (fails_later n i e f)) (pass_or_fail n (suc i)))
      (true_or_false (not_json s (sections i)))

-- ---- the reading

module _ (s : List ℕ) where
  pub strict→ : strict_verdict s ≡ Accepted → (verdict_of s ≡ Accepted) × MetadataIsJson s
  unfolding strict_verdict
  strict→ e =
      let t = then_accepted _ _ e in
      (t.0, λ i h k. passed→ s (section_at s i) (all_pass→ s (section_at s) (count_of s) 0 t.1 i (omega arith) (omega arith)) k)

  pub →strict : verdict_of s ≡ Accepted → MetadataIsJson s → strict_verdict s ≡ Accepted
  unfolding strict_verdict
  →strict a m = rw a (→all-pass s (section_at s) (count_of s) 0 (λ j x y. →passed s (section_at s j) (m j (omega arith))))

  -- the first section that fails is the first metadata section that is no text
  pub first_failed : (f : Fails s (section_at s) (count_of s) 0) → FirstNotText s f.index
  first_failed f =
      let t = f.to in
      let k = failed→ s (section_at s f.index) f.fails in
      record {
        is_section = omega arith;
        is_metadata = k.0;
        no_text = k.1;
        texts_before = λ j h m. passed→ s (section_at s j) (f.before j (omega arith) h) m;
      }

  by_verdict : (v : Verdict) → verdict_of s ≡ v → StrictlyRead s (read_strict s)
  unfolding read_strict read_view strict_verdict
  by_verdict (Refused r) e =
      let same : strict_verdict s ≡ verdict_of s = rw e refl in
      inl (record { metadata_json = λ a. never r (sym e ∙ a); reading = ap (reading_of (view_of s)) same })
  by_verdict Accepted e =
      ⊎_elim
      (λ p.
      let same : strict_verdict s ≡ verdict_of s = rw e p in
      inl (record { metadata_json = λ a. (strict→ (same ∙ a)).1; reading = ap (reading_of (view_of s)) same }))
      (λ f.
      let refused : strict_verdict s ≡ refuse_metadata (section_at s f.index) f.index = rw e f.verdict in
      inr (record { ordinary = e; index = f.index; first = first_failed f; reading = ap (reading_of (view_of s)) refused }))
      (pass_or_fail s (section_at s) (count_of s) 0)

  pub strictly_read : StrictlyRead s (read_strict s)
  strictly_read = by_verdict (verdict_of s) refl
