-- The form of a record: from plain facts to the test, and back. Assumes nothing.
use Prim.Native.Nat.{ℕ, ◌-◌, ◌<◌, ◌≤◌}
use mathlib.Core.Path.{◌≡◌, sym, ap, ap₂, ◌∙◌}
use mathlib.Core.Bool.{true, false}
use mathlib.Core.List.{List}
use native.Mathlib.Omega.{arith}
use borrow.Author.Tests.{le-leb, lt-leb, eq-eqb, ne_eqb, leb-true, eqb-true}
use lib.Dec.{leb}
use lib.ListN.{length}
use Rattle.eif.specs.Roll.{record_head_size}
use Rattle.octets.proofs.Logic.{both_true}
use Rattle.assembler.specs.Records.{data_at, number_size, open_kind, piece_kind, close_kind, size_in, kind_in, size_fits, formed}

module _ (r : List ℕ) where
  pub formed_cut : length r < record_head_size → false ≡ formed r
  unfolding formed
  formed_cut h = simp (lt-leb _ _ h)

  module _ (whole : record_head_size ≤ length r) (size : ℕ) (size_is : size ≡ size_in r) where
    pub formed_not : (size ≡ length r - record_head_size → ⊥) → false ≡ formed r
    unfolding formed
    formed_not h =
        let g : size_in r ≡ length r - record_head_size → ⊥ = λ e. h (size_is ∙ e) in
        simp (le-leb _ _ whole, ne_eqb _ _ g)

    module _ (fits : size ≡ length r - record_head_size) (kind : ℕ) (kind-is : kind ≡ kind_in r) where
      pub formed_fits : size_fits kind size ≡ formed r
      unfolding formed
      formed_fits =
          let g : size_in r ≡ length r - record_head_size = sym size_is ∙ fits in
          ap₂ size_fits kind-is size_is ∙ simp (le-leb _ _ whole, eq-eqb _ _ g)

  module _ (ok : formed r ≡ true) where
    form : (record_head_size ≤ length r) × (size_in r ≡ length r - record_head_size) × (size_fits (kind_in r) (size_in r) ≡ true)
    unfolding formed
    form =
        let a = both_true _ _ ok in
        let b = both_true _ _ a.1 in
        (leb-true _ _ a.0, eqb-true _ _ b.0, b.1)

    -- a piece has a start
    pub formed_piece : kind_in r ≡ piece_kind → data_at ≤ length r
    formed_piece k =
        let e : leb number_size (size_in r) ≡ true = sym (ap (λ (n : ℕ). size_fits n (size_in r)) k) ∙ form.2 in
        let g = leb-true number_size (size_in r) e in
        omega (arith, form.1, form.0)

    -- there are three kinds
    pub formed_kinds : (kind_in r ≡ open_kind → ⊥) → (kind_in r ≡ piece_kind → ⊥) → kind_in r ≡ close_kind
    formed_kinds h g = eqb-true _ _ (both_true _ _ (simp (ne_eqb _ _ h, ne_eqb _ _ g) at form.2)).0
