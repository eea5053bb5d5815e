-- What the verdict on a view that is accepted says of each rule, and back; and what an accepted image's sections are.
-- Assumes nothing.
use Prim.Native.Nat.{ℕ, zero, suc, ◌+◌, ◌<◌, ◌≤◌}
use mathlib.Core.Path.{◌≡◌, refl, sym, ◌∙◌}
use mathlib.Core.Bool.{false, not}
use mathlib.Core.List.{List}
use native.Mathlib.Omega.{arith}
use borrow.Author.Tests.{eq-eqb, eqb-true, ltb-false, not-false}
use lib.Dec.{eqb}
use lib.ListN.{length, length-take, length-drop}
use Rattle.octets.specs.Lists.{All}
use Rattle.eif.specs.Numbers.{place_count}
use Rattle.eif.specs.Rules.{order_fault, missing, missing_fault}
use Rattle.eif.specs.Layout.{View, view_of, version, count, checksum, count_of, start_at, kind_at}
use Rattle.eif.specs.Reading.{section_fault, has_tail, tail_fault, checksum_fault, judged, early, verdict_in, checksum_of, verdict_of, section_at, blank_section, section_in, sections_of, data_of}
use Rattle.eif.specs.declared.Section.{Section}
use Rattle.eif.specs.declared.Verdict.TheVariants.{Accepted}
use Rattle.octets.proofs.Logic.{choose_zero}
use Rattle.eif_lemmas.proofs.Verdicts.{then_accepted, accepted_zero, walk_accepted, walk_all}
use Rattle.eif_lemmas.proofs.Table.{all_filled, filled_at}
use Rattle.eif_lemmas.proofs.Position.{located_accepted}
use Rattle.eif_lemmas.proofs.View.{SoundHeader, header, header_fields, sound_of, order_of_holds, Sound}
use Rattle.eif_lemmas.proofs.Fields.{fields_zero}

pub record Passes (v : View) (computed : ℕ) : Type 0 where
  pub head : SoundHeader v
  pub sections : (i : ℕ) → i < count v → section_fault v i ≡ 0
  pub complete : missing v.kind (version v) (count v) ≡ false
  pub no_tail : has_tail v ≡ false
  pub sum : checksum v ≡ computed

module _ (v : View) where
  pub accepted→ : (computed : ℕ) → verdict_in v computed ≡ Accepted → Passes v computed
  unfolding verdict_in early judged missing_fault tail_fault checksum_fault
  accepted→ computed e =
      let j = then_accepted _ _ e in
      let t = then_accepted _ _ j.0 in
      let a = then_accepted _ _ (located_accepted _ _ t.0) in
      let b = then_accepted _ _ a.1 in
      record {
        head = header v (accepted_zero _ _ _ a.0);
        sections = λ i h. walk_accepted (section_fault v) (count v) 0 b.0 i (omega arith) (omega arith);
        complete = (choose_zero (missing v.kind (version v) (count v)) _ 0 (accepted_zero _ _ _ b.1)).0;
        no_tail = (choose_zero (has_tail v) _ 0 (accepted_zero _ _ _ t.1)).0;
        sum = eqb-true _ _ (not-false _ (choose_zero (not (eqb (checksum v) computed)) _ 0 (accepted_zero _ _ _ j.1)).0);
      }

  pub →accepted : (computed : ℕ) → Passes v computed → verdict_in v computed ≡ Accepted
  unfolding verdict_in early judged missing_fault tail_fault checksum_fault
  →accepted computed p =
      let h = p.head in
      let z = sym (header_fields v h.small h.whole h.magic) ∙ fields_zero (version v) (count v) h.fields in
      let w = walk_all (section_fault v) (count v) 0 (λ j a b. p.sections j (omega arith)) in
      simp (z, w, p.complete, p.no_tail, eq-eqb _ _ p.sum)

-- ---- of an accepted image

abbrev pub Inside : List ℕ → Section → Type 0
Inside s x = x.position.0 + x.length.0 ≤ length s

pub length_data : (s : List ℕ) (x : Section) → Inside s x → length (data_of s x) ≡ x.length.0
length_data s x inside = simp (length-take, length-drop) (omega arith)

module _ (s : List ℕ) (e : verdict_of s ≡ Accepted) where
  pub passes : Passes (view_of s) (checksum_of s)
  passes = accepted→ (view_of s) (checksum_of s) e

  pub sections_inside : All (Inside s) (sections_of s)
  sections_inside =
      all_filled (Inside s) (section_at s) blank_section place_count (count_of s) (omega arith)
      (λ i h. (sound_of (view_of s) i (passes.sections i h)).ends)

  -- a used place of its section list holds what the file says of that section
  pub section_is : (i : ℕ) → i < count_of s → section_in (sections_of s) i ≡ section_at s i
  section_is i h = filled_at (section_at s) blank_section blank_section place_count (count_of s) i h passes.head.fields.few

  -- the file ends where the last section does
  pub file_ends : length s ≡ start_at s (count_of s)
  file_ends =
      let t : length s ≤ start_at s (count_of s) = ltb-false (start_at s (count_of s)) (length s) passes.no_tail in
      let u = last (count_of s) (omega (arith, passes.head.fields.some)) refl in
      omega arith
    where
      last : (n : ℕ) → 0 < n → count_of s ≡ n → start_at s n ≤ length s
      last zero h f = absurd (omega arith)
      last (suc n) h f = (sound_of (view_of s) n (passes.sections n (omega arith))).ends

  pub sound_at : (i : ℕ) → i < count_of s → Sound (view_of s) i
  sound_at i h = sound_of (view_of s) i (passes.sections i h)

  pub order_at : (i : ℕ) → i < count_of s → order_fault (kind_at s) (kind_at s i) i ≡ 0
  order_at i h = order_of_holds (view_of s) i (passes.sections i h)
