-- The tests of the assembler, each from plain facts: a row of marks one place at a time, and a piece on the grid. Assumes nothing.
use Prim.Native.Nat.{ℕ, ◌+◌, ◌-◌, ◌%◌, ◌<◌, ◌≤◌, min}
use mathlib.Core.Path.{◌≡◌, refl}
use mathlib.Core.Bool.{Bool, true, false, not}
use mathlib.Core.List.{List}
use native.Mathlib.Numerals.{add-one}
use borrow.Author.Tests.{lt-leb, le-leb, eq-eqb, ne_eqb}
use lib.Dec.{eqb}
use lib.ListN.{length, drop, get_or, drop_of_length-le}
use lib.Seq.{drop-cons}
use Rattle.octets.specs.Logic.{both}
use Rattle.assembler.specs.Records.{piece_size, off_grid}
use Rattle.assembler.specs.Rules.{all_held}

-- ---- marks

module _ (y : List ℕ) (k : ℕ) where
  module _ (h : k < length y) where
    held_by_holds : (t : Bool) → eqb (get_or y k 0) 0 ≡ t → both (not t) (all_held (drop (k + 1) y)) ≡ all_held (drop k y)
    unfolding all_held
    held_by_holds t e = rw (add-one, drop-cons y k 0 h, e) refl

    pub held_step : (get_or y k 0 ≡ 0 → ⊥) → all_held (drop (k + 1) y) ≡ all_held (drop k y)
    held_step e = held_by_holds false (ne_eqb _ _ e)

    pub held_gap : get_or y k 0 ≡ 0 → false ≡ all_held (drop k y)
    held_gap e = held_by_holds true (eq-eqb _ _ e)

  pub held_end : length y ≤ k → true ≡ all_held (drop k y)
  unfolding all_held
  held_end h = rw (drop_of_length-le y h) refl

-- ---- the grid

module _ (n start count : ℕ) where
  pub grid_past : n ≤ start → true ≡ off_grid n start count
  unfolding off_grid
  grid_past h = simp (le-leb _ _ h)

  module _ (h : start < n) where
    pub grid_off : (start % piece_size ≡ 0 → ⊥) → true ≡ off_grid n start count
    unfolding off_grid
    grid_off g = simp (lt-leb _ _ h, ne_eqb _ _ g)

    pub grid_count : start % piece_size ≡ 0 → (m : ℕ) → m ≡ min piece_size (n - start) → not (eqb count m) ≡ off_grid n start count
    unfolding off_grid
    grid_count g m e = rw e (simp (lt-leb _ _ h, eq-eqb _ _ g))
