-- The image written afresh: its plan is not refused, and what reading finds in it.
-- Assumes nothing.
use Prim.Native.Nat.{ℕ, ◌+◌, ◌<◌, ◌≤◌}
use mathlib.Core.Path.{◌≡◌, refl, sym, ap, ap₂, ◌∙◌}
use mathlib.Core.List.{List}
use mathlib.Core.Logic.{⊎_elim}
use native.Mathlib.Omega.{arith}
use borrow.Author.Tests.{eq-eqb, ne_eqb}
use lib.Dec.{eqb}
use lib.ListN.{length, take, drop, set, length-map}
use lib.Seq.{get_or-set_same, get_or-set_other}
use Rattle.eif.specs.Table.{join_from}
use Rattle.eif.specs.Numbers.{size_limit, place_count}
use Rattle.octets.specs.Logic.{choose}
use Rattle.eif.specs.Layout.{version_of, count_of, kind_at, section_header_size}
use Rattle.eif.specs.Reading.{verdict_of, blank_section, section_at, sections_of, data_of, own_data}
use Rattle.eif.specs.Plan.{blank_place, place_at, planned_kind, planned_size, plain_size, plain_image, place_of, plan_of}
use Rattle.staged.specs.Staged.{with_length, with_place, staged_plan, staged_part, staged_joined, afresh}
use Rattle.eif.specs.declared.Place.{Place}
use Rattle.eif.specs.declared.Plan.{Plan}
use Rattle.eif.specs.declared.Section.{Section}
use Rattle.eif.specs.declared.Reading.{Reading}
use Rattle.eif.specs.declared.Verdict.TheVariants.{Accepted}
use Rattle.octets.proofs.Logic.{equal_or_not}
use Rattle.eif_lemmas.proofs.Reading.{reading_accepted, reading_section}
use Rattle.eif_lemmas.proofs.Table.{length_filled, join_same}
use Rattle.plain_laws.proofs.PlanRules.{types_fine_same, Planned}
use Rattle.plain_laws.proofs.Joined.{piece_is, length_joined}
use Rattle.plain_laws.proofs.Written.{read_kind, read_count, read_offset, read_size, read_data}
use Rattle.plain_laws.proofs.WriteBack.{plan, sound_head, kind_is, length_own}
use Rattle.plain_laws.proofs.Plainness.{plan_planned}
use Rattle.staged.proofs.Accept.{count_is}

-- ---- one place of a plan changed

module _ (l : List Place) (k size : ℕ) (h : k < length l) where
  abbrev changed : List Place
  changed = set l k (with_length (place_at l k) size)

  place_same : place_at changed k ≡ with_length (place_at l k) size
  place_same = get_or-set_same l k (with_length (place_at l k) size) blank_place h

  place_other : (j : ℕ) → (j ≡ k → ⊥) → place_at changed j ≡ place_at l j
  place_other j n = get_or-set_other l k j (with_length (place_at l k) size) blank_place n

  -- what is alike of the changed place is alike of each
  pub kept_at : {A : Type 0} (f : Place → A) → f (with_length (place_at l k) size) ≡ f (place_at l k) → (j : ℕ) → f (place_at changed j) ≡ f (place_at l j)
  kept_at f same j =
      ⊎_elim
      (λ (e : j ≡ k). rw e (ap f place_same ∙ same))
      (λ (n : j ≡ k → ⊥). ap f (place_other j n))
      (equal_or_not j k)

  pub kind_kept : (j : ℕ) → planned_kind changed j ≡ planned_kind l j
  kind_kept = kept_at (λ x. x.kind) refl

  pub flags_kept : (j : ℕ) → (place_at changed j).flags ≡ (place_at l j).flags
  flags_kept = kept_at (λ x. x.flags) refl

-- ---- the base is accepted

module _ (s r : List ℕ) (k : ℕ) (ok : verdict_of s ≡ Accepted) where
  -- the data of section j
  abbrev pub part_at : ℕ → List ℕ
  part_at j = choose (eqb j k) r (own_data s j)

  abbrev pub parts_joined : List ℕ
  parts_joined = join_from part_at (count_of s) 0

  abbrev pub changed_plan : ℕ → Plan
  changed_plan size = with_place (plan s) k size

  abbrev pub fresh_image : List ℕ
  fresh_image = plain_image (changed_plan (length r)) parts_joined

  pub plan_is : (size : ℕ) → staged_plan s k size ≡ changed_plan size
  unfolding staged_plan
  plan_is size = ap (λ (x : Reading). with_place (plan_of x) k size) (reading_accepted s ok)

  pub part_is : (j : ℕ) → j < count_of s → staged_part s r k j ≡ part_at j
  unfolding staged_part
  part_is j h = ap (λ (x : Section). choose (eqb j k) r (data_of s x)) (reading_section s ok j h)

  pub parts_are : staged_joined s r k ≡ parts_joined
  unfolding staged_joined
  parts_are =
      ap (λ (n : ℕ). join_from (staged_part s r k) n 0) (count_is s ok)
      ∙ join_same (staged_part s r k) part_at (count_of s) 0 (λ j h. part_is j (omega arith))

  pub afresh_is : afresh s r k ≡ fresh_image
  unfolding afresh
  afresh_is = ap₂ (λ (p : Plan) (d : List ℕ). plain_image p d) (plan_is (length r)) parts_are

  -- the replaced section's data is the replacement, the others' that of the base
  pub part_replaced : part_at k ≡ r
  part_replaced = simp (eq-eqb k k refl)

  pub part_kept : (j : ℕ) → (j ≡ k → ⊥) → part_at j ≡ own_data s j
  part_kept j n = simp (ne_eqb j k n)

  -- ---- and has the section that is replaced

  module _ (h : k < count_of s) where
    abbrev l : List Place
    l = (plan s).places

    pub places_long : length l ≡ place_count
    places_long = length-map (sections_of s) place_of ∙ length_filled (section_at s) blank_section place_count (count_of s)

    pub in_places_holds : k < length l
    in_places_holds = let n = places_long in let f = (sound_head s ok).fields.few in omega arith

    pub size_kept : (j : ℕ) → j < count_of s → length (part_at j) ≡ planned_size (changed_plan (length r)).places j
    size_kept j q =
        ⊎_elim
        (λ (e : j ≡ k).
        rw e (ap length part_replaced ∙ sym (ap (λ (x : Place). x.length.0) (place_same l k (length r) in_places_holds))))
        (λ (n : j ≡ k → ⊥).
        ap length (part_kept j n) ∙ length_own s ok j q ∙ sym (ap (λ (x : Place). x.length.0) (place_other l k (length r) in_places_holds j n)))
        (equal_or_not j k)

    -- ---- and the image written afresh is within the limit

    module _ (small : plain_size (changed_plan (length r)) ≤ size_limit) where
      abbrev m : List Place
      m = (changed_plan (length r)).places

      same_kind : (j : ℕ) → planned_kind m j ≡ planned_kind l j
      same_kind = kind_kept l k (length r) in_places_holds

      pub changed_planned : Planned (changed_plan (length r)) (length parts_joined)
      changed_planned =
          let a = plan_planned s ok in
          record {
            fields = a.fields;
            types = types_fine_same (version_of s) (planned_kind m) (planned_kind l) (count_of s) (λ j g. same_kind j) a.types;
            small = small;
            sized = length_joined m (count_of s) part_at size_kept;
          }

      pub fresh_count : count_of fresh_image ≡ count_of s
      fresh_count = read_count (changed_plan (length r)) parts_joined changed_planned

      pub fresh_kind : (j : ℕ) → j < count_of s → kind_at fresh_image j ≡ kind_at s j
      fresh_kind j q = read_kind (changed_plan (length r)) parts_joined changed_planned j q ∙ same_kind j ∙ kind_is s ok j q

      pub fresh_data : (j : ℕ) → j < count_of s → own_data fresh_image j ≡ part_at j
      fresh_data j q =
          let p = changed_plan (length r) in
          let a = changed_planned in
          ap₂ (λ (n o : ℕ). take n (drop (o + section_header_size) fresh_image)) (read_size p parts_joined a j q) (read_offset p parts_joined a j q)
          ∙ read_data p parts_joined a j q ∙ piece_is m (count_of s) part_at size_kept j q
