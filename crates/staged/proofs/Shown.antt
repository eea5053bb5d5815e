-- Where the data of a section lies, case by case: in the replacement, or in the base; and that the bytes there are what is shown.
-- Assumes nothing.
use Prim.Native.Nat.{ℕ}
use mathlib.Core.Path.{◌≡◌, refl, sym, ap, ◌∙◌}
use mathlib.Core.Bool.{Bool, true, false}
use mathlib.Core.List.{List}
use borrow.Author.Tests.{eq-eqb, ne_eqb}
use lib.Dec.{eqb}
use lib.ListN.{length, take, drop}
use lib.Seq.{get_or-set_other, take-length}
use Rattle.octets.specs.Logic.{choose}
use Rattle.eif.specs.Reading.{blank_section, data_of, read_image, section_in}
use Rattle.eif.specs.declared.Section.{Section}
use Rattle.eif.specs.declared.Verdict.TheVariants.{Accepted}
use Rattle.staged.specs.Staged.{staged_part, staged_verdict, shown_part}
use Rattle.staged.specs.View.{moved, staged_sections, place_for, staged_place}

-- a section that is not replaced stands in the view's list as in the base's
section_kept : (l : List Section) (k j at size : ℕ) → (j ≡ k → ⊥) → section_in (staged_sections l k at size) j ≡ section_in l j
unfolding staged_sections
section_kept l k j at size n = get_or-set_other l k j (moved (section_in l k) at size) blank_section n

module _ (s : List ℕ) (size k j : ℕ) where
  module _ (e : staged_verdict s size k j ≡ Accepted) where
    pub place_replaced : j ≡ k → place_for Accepted 1 0 size ≡ staged_place s size k j
    unfolding staged_place
    place_replaced q = simp (e, eq-eqb j k q)

    pub place_kept : (j ≡ k → ⊥) → (x : Section) → x ≡ section_in (staged_sections (read_image s).sections k (length s) size) j
        → place_for Accepted 0 x.position.0 x.length.0 ≡ staged_place s size k j
    unfolding staged_place
    place_kept n x q =
        ap (λ (y : Section). place_for Accepted 0 y.position.0 y.length.0)
        (q ∙ section_kept (read_image s).sections k j (length s) size n)
        ∙ sym (simp (e, ne_eqb j k n))

-- the bytes there, in the replacement where the answer says 1 and else in the base, are what is shown
pub place_shows : (s r : List ℕ) (k j : ℕ) → staged_verdict s (length r) k j ≡ Accepted
    → take (staged_place s (length r) k j).length.0 (drop (staged_place s (length r) k j).start (choose (eqb (staged_place s (length r) k j).in_replacement 1) r s))
    ≡ shown_part s r k j
unfolding staged_place shown_part staged_part
place_shows s r k j e = rw e (by (section_in (read_image s).sections j) (eqb j k))
  where
    by : (x : Section) (b : Bool)
        → take (choose b (length r) x.length.0) (drop (choose b 0 x.position.0) (choose (eqb (choose b 1 0) 1) r s)) ≡ choose b r (data_of s x)
    by x true = take-length r
    by x false = refl
