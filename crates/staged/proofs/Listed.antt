-- A staged view from a reading of the base: its answers case by case, and that with the base's own reading they are those of the base.
use Prim.Native.Nat.{ℕ, ◌+◌, ◌-◌, ◌<◌, ◌≤◌, min}
use mathlib.Core.Path.{◌≡◌, refl, sym, ap, ap₂, ◌∙◌}
use mathlib.Core.Bool.{Bool, true, false}
use mathlib.Core.List.{List, []}
use mathlib.Core.Logic.{⊎_elim}
use native.Mathlib.Omega.{arith}
use borrow.Author.Tests.{leb-false, ltb-false, lt-leb, le-leb, lt-ltb, le-ltb, eq-eqb, ne_eqb}
use lib.Dec.{ltb, eqb}
use lib.ListN.{length, take, drop, length-drop, drop_of_length-le}
use lib.Seq.{take_all, take-length, take-nil}
use Rattle.octets.specs.Logic.{choose}
use Rattle.octets.proofs.Logic.{either_false, le_or_lt}
use Rattle.eif.specs.Numbers.{size_limit, place_count, wrong_count, image_too_long, no_such_section}
use Rattle.eif.specs.Answers.{refuse, and_then, beside}
use Rattle.eif.specs.Reading.{verdict_of, data_of, read_image, section_in}
use Rattle.eif.specs.Plan.{plain_size, plan_of}
use Rattle.eif.specs.declared.Reading.{Reading}
use Rattle.eif.specs.declared.Refusal.{Refusal}
use Rattle.eif.specs.declared.Section.{Section}
use Rattle.eif.specs.declared.Verdict.{Verdict}
use Rattle.eif.specs.declared.Verdict.TheVariants.{Accepted, Refused}
use Rattle.eif_lemmas.proofs.Accept.{sound_at}
use Rattle.eif_lemmas.proofs.Reading.{reading_verdict, reading_section}
use Rattle.eif_lemmas.proofs.Verdicts.{then_accepted, refused_not}
use Rattle.plain_laws.proofs.WriteBack.{sound_head}
use Rattle.staged.specs.Staged.{with_place, view_verdict, staged_plan, staged_part, staged_verdict, shown_part}
use Rattle.staged.specs.View.{staged_sections, blank_staged, staged_for, staged_view, shown_at, shown_start, place_for, staged_place}
use Rattle.staged.specs.Listed.{listed_verdict, listed_view, listed_shown, listed_start, listed_place}
use Rattle.staged.proofs.Accept.{count_is, staged→}

-- ---- the verdict, test by test

module _ (x : Reading) (size k j : ℕ) where
  abbrev Answer : Verdict → Type 0
  Answer v = v ≡ listed_verdict x size k j

  pub reading_refused : (r : Refusal) → x.verdict ≡ Refused r → Answer (Refused r)
  unfolding listed_verdict
  reading_refused r e = simp e

  module _ (ok : x.verdict ≡ Accepted) where
    pub too_many : place_count < x.count → Answer (refuse wrong_count 0)
    unfolding listed_verdict
    too_many h = simp (ok, lt-ltb _ _ h)

    module _ (few : x.count ≤ place_count) where
      pub no_replaced : x.count ≤ k → Answer (refuse no_such_section 0)
      unfolding listed_verdict
      no_replaced h = simp (ok, le-ltb _ _ few, le-leb _ _ h)

      module _ (replaced : k < x.count) where
        pub no_shown : x.count ≤ j → Answer (refuse no_such_section 0)
        unfolding listed_verdict
        no_shown h = simp (ok, le-ltb _ _ few, lt-leb _ _ replaced, le-leb _ _ h)

        module _ (shown : j < x.count) where
          -- by whether the image written afresh is over the limit
          abbrev Long : Bool → Type 0
          Long b = b ≡ ltb size_limit (plain_size (with_place (plan_of x) k size))

          pub over_limit : Long true → Answer (refuse image_too_long 0)
          unfolding listed_verdict
          over_limit h = simp (ok, le-ltb _ _ few, lt-leb _ _ replaced, lt-leb _ _ shown, sym h)

          pub view_fine : Long false → Answer Accepted
          unfolding listed_verdict
          view_fine h = simp (ok, le-ltb _ _ few, lt-leb _ _ replaced, lt-leb _ _ shown, sym h)

  -- both numbers are those of places
  pub listed_in : listed_verdict x size k j ≡ Accepted → (k < place_count) × (j < place_count)
  unfolding listed_verdict
  listed_in e =
      let view = view_verdict x.count (with_place (plan_of x) k size) k j in
      let a = then_accepted x.verdict (choose (ltb place_count x.count) (refuse wrong_count 0) view) e in
      let b = refused_not _ _ _ a.1 in
      let few : x.count ≤ place_count = ltb-false _ _ b.0 in
      let c = refused_not _ _ _ b.1 in
      let d = either_false _ _ c.0 in
      let kc : k < x.count = leb-false _ _ d.0 in
      let jc : j < x.count = leb-false _ _ d.1 in
      (omega arith, omega arith)

-- ---- the view

module _ (x : Reading) (end size k j : ℕ) where
  pub view_refused : (r : Refusal) → listed_verdict x size k j ≡ Refused r → blank_staged (Refused r) ≡ listed_view x end size k j
  unfolding listed_view
  view_refused r e = simp e

  pub view_accepted : listed_verdict x size k j ≡ Accepted → staged_for Accepted x.flags (staged_sections x.sections k end size) ≡ listed_view x end size k j
  unfolding listed_view
  view_accepted e = simp e

-- ---- what is shown, and where it stands in memory

module _ (s r : List ℕ) (x : Reading) (k j : ℕ) (base given : ℕ × ℕ) where
  -- bytes and start
  abbrev Shows : List ℕ → ℕ × ℕ → Type 0
  Shows b p = (b ≡ listed_shown s r x k j) × (p ≡ listed_start s (length r) x k j base given)

  pub shows_refused : (f : Refusal) → listed_verdict x (length r) k j ≡ Refused f → Shows [] base
  unfolding listed_shown listed_start
  shows_refused f e = (simp e, simp e)

  module _ (e : listed_verdict x (length r) k j ≡ Accepted) where
    pub shows_replaced : j ≡ k → Shows r given
    unfolding listed_shown listed_start
    shows_replaced q = (simp (e, eq-eqb j k q), simp (e, eq-eqb j k q))

    pub shows_kept : (j ≡ k → ⊥) → Shows (data_of s (section_in x.sections j)) (base.0, base.1 + min (section_in x.sections j).position.0 (length s))
    unfolding listed_shown listed_start
    shows_kept n = (simp (e, ne_eqb j k n), simp (e, ne_eqb j k n))

-- ---- where it lies

cut : (l : List ℕ) (n m : ℕ) → length l ≤ m → take (min n m) l ≡ take n l
cut l n m h =
    ⊎_elim
    (λ (g : n ≤ m). let e : min n m ≡ n = omega arith in ap (λ (i : ℕ). take i l) e)
    (λ (g : m < n).
    let e : min n m ≡ m = omega arith in
    ap (λ (i : ℕ). take i l) e ∙ take_all m l h ∙ sym (take_all n l (omega arith)))
    (le_or_lt n m)

-- what is taken from a position, cut to the list
clipped : (s : List ℕ) (p n : ℕ) → take (min n (length s - p)) (drop (min p (length s)) s) ≡ take n (drop p s)
clipped s p n =
    ⊎_elim
    (λ (h : length s ≤ p).
    let a : min n (length s - p) ≡ 0 = omega arith in
    ap (λ (m : ℕ). take m (drop (min p (length s)) s)) a ∙ sym (ap (take n) (drop_of_length-le s {i = p} h) ∙ take-nil n))
    (λ (h : p < length s).
    let b : min p (length s) ≡ p = omega arith in
    let d = length-drop p s in
    ap (λ (m : ℕ). take (min n (length s - p)) (drop m s)) b ∙ cut (drop p s) n (length s - p) (omega arith))
    (le_or_lt (length s) p)

module _ (x : Reading) (end size k j : ℕ) where
  pub lies_refused : (f : Refusal) → listed_verdict x size k j ≡ Refused f → place_for (Refused f) 0 0 0 ≡ listed_place x end size k j
  unfolding listed_place
  lies_refused f e = simp e

  module _ (e : listed_verdict x size k j ≡ Accepted) where
    pub lies_replaced : j ≡ k → place_for Accepted 1 0 size ≡ listed_place x end size k j
    unfolding listed_place
    lies_replaced q = simp (e, eq-eqb j k q)

    pub lies_kept : (j ≡ k → ⊥)
        → place_for Accepted 0 (min (section_in x.sections j).position.0 end) (min (section_in x.sections j).length.0 (end - (section_in x.sections j).position.0))
        ≡ listed_place x end size k j
    unfolding listed_place
    lies_kept n = simp (e, ne_eqb j k n)

-- the bytes there, in the replacement where the answer says 1 and else in the base, are what is shown, whatever the reading
pub listed_place_shows : (s r : List ℕ) (x : Reading) (k j : ℕ) → listed_verdict x (length r) k j ≡ Accepted
    → take (listed_place x (length s) (length r) k j).length.0
    (drop (listed_place x (length s) (length r) k j).start (choose (eqb (listed_place x (length s) (length r) k j).in_replacement 1) r s))
    ≡ listed_shown s r x k j
unfolding listed_place listed_shown
listed_place_shows s r x k j e = rw e (by (section_in x.sections j) (eqb j k))
  where
    by : (y : Section) (b : Bool)
        → take (choose b (length r) (min y.length.0 (length s - y.position.0)))
        (drop (choose b 0 (min y.position.0 (length s))) (choose (eqb (choose b 1 0) 1) r s))
        ≡ choose b r (data_of s y)
    by y true = take-length r
    by y false = clipped s y.position.0 y.length.0

-- ---- the base's own reading, for every base

module _ (s : List ℕ) where
  few_places : verdict_of s ≡ Accepted → (read_image s).count ≤ place_count
  few_places ok = let n = count_is s ok in let f = (sound_head s ok).fields.few in omega arith

  module _ (size k j : ℕ) where
    abbrev own : Verdict
    own = view_verdict (read_image s).count (with_place (plan_of (read_image s)) k size) k j

    abbrev shown_section : Section
    shown_section = section_in (read_image s).sections j

    by_verdict : (v : Verdict) → verdict_of s ≡ v → and_then v (choose (ltb place_count (read_image s).count) (refuse wrong_count 0) own) ≡ and_then v own
    by_verdict (Refused r) e = refl
    by_verdict Accepted e = ap (λ (b : Bool). choose b (refuse wrong_count 0) own) (le-ltb _ _ (few_places e))

    pub verdict_agrees : listed_verdict (read_image s) size k j ≡ staged_verdict s size k j
    unfolding listed_verdict staged_verdict staged_plan
    verdict_agrees =
        ap (λ (v : Verdict). and_then v (choose (ltb place_count (read_image s).count) (refuse wrong_count 0) own)) (reading_verdict s)
        ∙ by_verdict (verdict_of s) refl

    pub view_agrees : listed_view (read_image s) (length s) size k j ≡ staged_view s size k j
    unfolding listed_view staged_view
    view_agrees = ap (λ (v : Verdict). staged_for v (read_image s).flags (staged_sections (read_image s).sections k (length s) size)) verdict_agrees

    pub start_agrees : (base given : ℕ × ℕ) → listed_start s size (read_image s) k j base given ≡ shown_start s size k j base given
    unfolding listed_start shown_start
    start_agrees base given =
        ap (λ (v : Verdict). shown_at v (eqb j k) base given (min (section_in (read_image s).sections j).position.0 (length s))) verdict_agrees

    -- where the section to be shown lies, cut to the base: it lies in the base
    by_place : (v : Verdict) → staged_verdict s size k j ≡ v
        → place_for v (choose (eqb j k) 1 0) (choose (eqb j k) 0 (min shown_section.position.0 (length s)))
        (choose (eqb j k) size (min shown_section.length.0 (length s - shown_section.position.0)))
        ≡ place_for v (choose (eqb j k) 1 0) (choose (eqb j k) 0 shown_section.position.0) (choose (eqb j k) size shown_section.length.0)
    by_place (Refused r) e = refl
    by_place Accepted e =
        let a = staged→ s size k j e in
        let i = ap (λ (y : Section). y.position.0 + y.length.0) (reading_section s a.accepted j a.shown) in
        let h = (sound_at s a.accepted j a.shown).ends in
        let p : min shown_section.position.0 (length s) ≡ shown_section.position.0 = omega arith in
        let n : min shown_section.length.0 (length s - shown_section.position.0) ≡ shown_section.length.0 = omega arith in
        ap₂ (λ (u v : ℕ). place_for Accepted (choose (eqb j k) 1 0) (choose (eqb j k) 0 u) (choose (eqb j k) size v)) p n

    pub place_agrees : listed_place (read_image s) (length s) size k j ≡ staged_place s size k j
    unfolding listed_place staged_place
    place_agrees =
        ap
        (λ (v : Verdict).
        place_for v (choose (eqb j k) 1 0) (choose (eqb j k) 0 (min shown_section.position.0 (length s)))
        (choose (eqb j k) size (min shown_section.length.0 (length s - shown_section.position.0))))
        verdict_agrees
        ∙ by_place (staged_verdict s size k j) refl

  pub shown_agrees : (r : List ℕ) (k j : ℕ) → listed_shown s r (read_image s) k j ≡ shown_part s r k j
  unfolding listed_shown shown_part staged_part
  shown_agrees r k j =
      ap (λ (v : Verdict). beside v (choose (eqb j k) r (data_of s (section_in (read_image s).sections j))) []) (verdict_agrees (length r) k j)
