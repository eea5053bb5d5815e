-- Byte strings that the relations of eif's Burst and Acceptance hold of, and values that they reject, by computation: of five bytes, and of the
-- worked image, whose three sections start at 548, 561 and 574. Numbers are written out.
use Prim.Native.Nat.{ℕ, zero, suc, ◌<◌, ◌≤◌}
use mathlib.Core.Path.{◌≡◌, refl, ap, ◌∙◌}
use mathlib.Core.List.{List, [], ◌∷◌}
use mathlib.Core.Logic.{inl, inr, ⊎_elim}
use native.Mathlib.Omega.{arith}
use lib.Dec.{lit<, lit≤}
use lib.ListN.{get_or}
use Rattle.octets.specs.Bytes.{field, be_value}
use Rattle.octets.specs.Over.{over}
use Rattle.eif.specs.Layout.{offset_at, end_at, kind_at}
use Rattle.eif.specs.Reading.{checksum_of}
use Rattle.eif.specs.Burst.{SameBut, DifferWithin}
use Rattle.eif.specs.Acceptance.{AllowedType, Present, MeetsRules, InSection}
use Rattle.eif.specs.Worked.{worked_image}
use Rattle.eif.proofs.Worked.{worked_checksum, worked_accepted}
use Rattle.eif_laws.proofs.Acceptance.{accepted_exactly_when}

-- ---- five bytes: two that differ lie within four neighbours; a first and a last one do not

abbrev five : List ℕ
five = 1 ∷ 2 ∷ 3 ∷ 4 ∷ 5 ∷ []

abbrev five_within : List ℕ
five_within = 1 ∷ 9 ∷ 3 ∷ 4 ∷ 8 ∷ []

abbrev five_across : List ℕ
five_across = 9 ∷ 2 ∷ 3 ∷ 4 ∷ 8 ∷ []

at_place : (a b : List ℕ) (i : ℕ) → a ≡ b → get_or a i 0 ≡ get_or b i 0
at_place a b i = ap (λ (l : List ℕ). get_or l i 0)

same_but_holds : SameBut 4 1 five five_within
same_but_holds = (refl, refl)

-- rejected: from the first byte on the last one differs, and from the third on the second
same_but_rejects : (SameBut 4 0 five five_within → ⊥) × (SameBut 4 2 five five_within → ⊥)
same_but_rejects =
    (λ s. let h = at_place _ _ 0 s.1 in omega arith, λ s. let h = at_place _ _ 1 s.0 in omega arith)

differ_holds : DifferWithin 4 five five_within
differ_holds = (1, same_but_holds)

differ_rejects : DifferWithin 4 five five_across → ⊥
differ_rejects d = go d.0 d.1
  where
    go : (at : ℕ) → SameBut 4 at five five_across → ⊥
    go zero s = let h = at_place _ _ 0 s.1 in omega arith
    go (suc at) s = let h = at_place _ _ 0 s.0 in omega arith

-- ---- bytes of the worked image: the command line's, its header's first; rejected: a byte of the file's header, which an unused entry of the table
-- would point at, and the byte after the last

in_section_holds : InSection worked_image 573 × InSection worked_image 561
unfolding field be_value
in_section_holds = (
  record { place = 1; used = lit< tt; not_before = lit≤ tt; not_after = lit< tt },
  record { place = 1; used = lit< tt; not_before = lit≤ tt; not_after = lit< tt },
)

in_section_rejects : (InSection worked_image 5 → ⊥) × (InSection worked_image 586 → ⊥)
unfolding field be_value
in_section_rejects = (λ x. before x.place x.used x.not_before, λ x. after x.place x.used x.not_after)
  where
    before : (i : ℕ) → i < 3 → offset_at worked_image i ≤ 5 → ⊥
    before zero u n = omega arith
    before (suc zero) u n = omega arith
    before (suc (suc zero)) u n = omega arith
    before (suc (suc (suc i))) u n = omega arith

    after : (i : ℕ) → i < 3 → 586 < end_at worked_image i → ⊥
    after zero u n = omega arith
    after (suc zero) u n = omega arith
    after (suc (suc zero)) u n = omega arith
    after (suc (suc (suc i))) u n = omega arith

-- ---- types, the rules of an image

allowed_holds : AllowedType 2 3 × AllowedType 3 4 × AllowedType 4 5
allowed_holds = (inl (lit≤ tt, lit≤ tt), inr (inl (refl, lit≤ tt)), inr (inr (refl, lit≤ tt)))

-- rejected: a signature in version 2, metadata in version 3, and the type 6
allowed_rejects : (AllowedType 2 4 → ⊥) × (AllowedType 3 5 → ⊥) × (AllowedType 4 6 → ⊥)
allowed_rejects = (
  ⊎_elim (λ a. let h = a.1 in omega arith) (⊎_elim (λ a. let h = a.1 in omega arith) (λ a. let h = a.1 in omega arith)),
  ⊎_elim (λ a. let h = a.1 in omega arith) (⊎_elim (λ a. let h = a.0 in omega arith) (λ a. let h = a.1 in omega arith)),
  ⊎_elim (λ a. let h = a.1 in omega arith) (⊎_elim (λ a. let h = a.0 in omega arith) (λ a. let h = a.0 in omega arith)),
)

present_holds : Present worked_image 3 3
unfolding field be_value
present_holds = (2, lit< tt, refl)

-- rejected: no ramdisk is among the first two
present_rejects : Present worked_image 3 2 → ⊥
unfolding field be_value
present_rejects p = go p.0 p.1 p.2
  where
    go : (i : ℕ) → i < 2 → kind_at worked_image i ≡ 3 → ⊥
    go zero u e = omega arith
    go (suc zero) u e = omega arith
    go (suc (suc i)) u e = omega arith

rules_met : MeetsRules worked_image
rules_met = (accepted_exactly_when worked_image).0 worked_accepted

-- rejected: the checksum's last byte is another
rules_reject : MeetsRules (over worked_image 547 (0 ∷ [])) → ⊥
unfolding over field be_value checksum_of
rules_reject m = let h = m.right_checksum ∙ worked_checksum in omega arith
