-- Sizes: the limit, an image's size from its sum of lengths, and the rules 1 and 15.
-- Assumes nothing.
use Prim.Native.Nat.{ℕ, zero, suc, ◌+◌, ◌*◌, ◌<◌, ◌≤◌}
use mathlib.Core.Path.{◌≡◌, refl, sym, ◌∙◌}
use mathlib.Core.List.{List}
use mathlib.Core.Logic.{⊎_elim}
use native.Mathlib.Omega.{arith}
use borrow.Author.Tests.{eq-eqb, ne_eqb, lt-ltb, le-ltb}
use lib.Dec.{eqb, ltb}
use Rattle.eif.specs.Numbers.{size_limit, place_count, image_too_long, data_length_differs}
use Rattle.eif.specs.Layout.{header_size, section_header_size, packed_by}
use Rattle.eif.specs.Plan.{size_fault, packed_at, data_before, plain_size}
use Rattle.eif.specs.declared.Place.{Place}
use Rattle.eif.specs.declared.Plan.{Plan}
use Rattle.octets.proofs.Logic.{le_or_lt, equal_or_not}
use Rattle.plan_judge.specs.Size.{limited, image_size, data_size}

pub limited_over : (n : ℕ) → size_limit < n → 0 ≡ limited n
unfolding limited
limited_over n h = simp (lt-ltb _ _ h)

pub limited_in : (n : ℕ) → n ≤ size_limit → n ≡ limited n
unfolding limited
limited_in n h = simp (le-ltb _ _ h)

-- an image's size is its header, the sections' headers and the data
pub packed_before : (l : List Place) (i : ℕ) → packed_at l i ≡ data_before l i + section_header_size * i + header_size
unfolding packed_by data_before
packed_before l zero = refl
packed_before l (suc i) = let r = packed_before l i in omega arith

module _ (p : Plan) where
  pub image_none : place_count < p.count → 0 ≡ image_size p
  unfolding image_size
  image_none h = simp (lt-ltb _ _ h)

  pub image_limited : p.count ≤ place_count → limited (plain_size p) ≡ image_size p
  unfolding image_size
  image_limited h = simp (le-ltb _ _ h)

  pub data_none : image_size p ≡ 0 → 0 ≡ data_size p
  unfolding data_size
  data_none e = simp e

  pub data_some : (image_size p ≡ 0 → ⊥) → data_before p.places p.count ≡ data_size p
  unfolding data_size
  data_some h = simp (ne_eqb _ _ h)

  -- a size that is not 0 is one of no more sections than places
  pub size_few : (image_size p ≡ 0 → ⊥) → p.count ≤ place_count
  size_few h = ⊎_elim (λ few. few) (λ many. absurd (h (sym (image_none many)))) (le_or_lt p.count place_count)

-- what an image's size tells, where the count is within the places
module _ (p : Plan) (r : ℕ) (few : p.count ≤ place_count) (e : r ≡ image_size p) where
  size_is : r ≡ limited (plain_size p)
  size_is = e ∙ sym (image_limited p few)

  -- no size is 0, so 0 says that it is over the limit
  over_limit : r ≡ 0 → size_limit < plain_size p
  over_limit z =
      let b = packed_before p.places p.count in
      ⊎_elim
      (λ h.
      let q = limited_in (plain_size p) h ∙ sym size_is ∙ z in
      absurd (omega arith))
      (λ h. h)
      (le_or_lt (plain_size p) size_limit)

  -- any other size is that of an image within the limit
  pub within_limit : (r ≡ 0 → ⊥) → (plain_size p ≤ size_limit) × (r ≡ plain_size p)
  within_limit z =
      ⊎_elim
      (λ h. (h, size_is ∙ sym (limited_in (plain_size p) h)))
      (λ h. absurd (z (size_is ∙ sym (limited_over (plain_size p) h))))
      (le_or_lt (plain_size p) size_limit)

  pub size_tells : eqb r 0 ≡ ltb size_limit (plain_size p)
  size_tells =
      ⊎_elim
      (λ z. eq-eqb r 0 z ∙ sym (lt-ltb _ _ (over_limit z)))
      (λ n. ne_eqb r 0 n ∙ sym (le-ltb _ _ (within_limit n).0))
      (equal_or_not r 0)

  -- the data is what the headers leave of the image
  pub size_parts : (r ≡ 0 → ⊥) → r ≡ data_before p.places p.count + section_header_size * p.count + header_size
  size_parts some = (within_limit some).1 ∙ packed_before p.places p.count

  module _ (given : ℕ) where
    pub size_over : r ≡ 0 → image_too_long ≡ size_fault p given
    unfolding size_fault
    size_over z = simp (lt-ltb _ _ (over_limit z))

    pub size_differs : (r ≡ 0 → ⊥) → (given ≡ data_before p.places p.count → ⊥) → data_length_differs ≡ size_fault p given
    unfolding size_fault
    size_differs some h = simp (le-ltb _ _ (within_limit some).0, ne_eqb _ _ h)

    pub size_fine : (r ≡ 0 → ⊥) → given ≡ data_before p.places p.count → 0 ≡ size_fault p given
    unfolding size_fault
    size_fine some h = simp (le-ltb _ _ (within_limit some).0, eq-eqb _ _ h)
