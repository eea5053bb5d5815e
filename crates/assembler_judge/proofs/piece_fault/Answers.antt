use Prim.Native.Nat.{ℕ, ◌+◌, ◌<◌, ◌≤◌}
use mathlib.Core.Path.{◌≡◌, sym, ap₂, ◌∙◌}
use mathlib.Core.Bool.{false}
use mathlib.Core.List.{List}
use native.Mathlib.Omega.{arith}
use lib.ListN.{length, length-drop}
use Rattle.eif.specs.Numbers.{buffer_too_short, piece_differs}
use Rattle.octets.specs.Logic.{choose}
use Rattle.assembler.specs.Records.{data_at, number_in, data_in, off_grid, place_in}
use Rattle.assembler.specs.Rules.{short_for, held_with_other}
use Rattle.assembler.specs.ByKind.{piece_fault}
use Rattle.assembler.specs.declared.State.{State}
use Rattle.assembler.proofs.Piece.{place_in_holds, piece_in}
use Rattle.assembler.proofs.Faults.{grid_in, long_enough, pick_yes, pick_no}
use Rattle.assembler_judge.proofs.piece_fault.Goals as goal
use Rattle.assembler_judge.proofs.piece_fault.Goals.{After-off_grid, Else-is_short, Else-off_grid}

-- `assembler_judge::piece_fault` meets its contract: each return is the first rule on a piece that applies. Assumes nothing.
module _ (c : After-off_grid) where
  abbrev st : State
  st = c.args.state

  abbrev r : List ℕ
  r = c.args.sent.now

  abbrev x : List ℕ
  x = c.args.image.now

  abbrev y : List ℕ
  y = c.args.marks.now

  grid : off_grid st.length (number_in r) (length (data_in r)) ≡ c.off_grid.result
  grid =
      sym
      (c.off_grid.ensures
      ∙ ap₂ (λ (n m : ℕ). off_grid st.length n m) c.le64-start.ensures (sym (length-drop data_at r)))

-- a piece of the open image
module _ (c : Else-off_grid) where
  abbrev q : After-off_grid
  q = (goal.at.Else-off_grid c).After-off_grid

  on_grid : off_grid (st q).length (number_in (r q)) (length (data_in (r q))) ≡ false
  on_grid = grid q ∙ c.if-off_grid.false

  rest : choose (short_for (st q) (length (x q)) (length (y q))) buffer_too_short (choose (held_with_other (r q) (x q) (y q)) piece_differs 0)
      ≡ piece_fault (st q) (r q) (x q) (y q)
  unfolding piece_fault
  rest = pick_no _ _ _ on_grid

-- and both buffers are long enough
module _ (c : Else-is_short) where
  abbrev p : After-off_grid
  p = q (goal.at.Else-is_short c).Else-off_grid

  not_short : short_for (st p) (length (x p)) (length (y p)) ≡ false
  not_short = sym c.is_short.ensures ∙ c.if-is_short.false

  last : choose (held_with_other (r p) (x p) (y p)) piece_differs 0 ≡ piece_fault (st p) (r p) (x p) (y p)
  last = pick_no _ _ _ not_short ∙ rest (goal.at.Else-is_short c).Else-off_grid

  fits : (number_in (r p) + length (data_in (r p)) ≤ length (x p)) × (place_in (r p) < length (y p))
  fits =
      let g = grid_in _ _ _ (on_grid (goal.at.Else-is_short c).Else-off_grid) in
      let m = long_enough (st p) (length (x p)) (length (y p)) not_short in
      let i = m.image_room in
      let j = m.mark_room in
      let a = piece_in _ _ _ g.inside g.sized in
      let b = place_in_holds _ _ g.inside in
      (omega arith, omega arith)

pub returns-then-off_grid : goal.returns-then-off_grid
unfolding piece_fault
returns-then-off_grid c = pick_yes _ _ _ (grid (goal.at.returns-then-off_grid c).After-off_grid ∙ c.if-off_grid.true)

pub returns-then-is_short : goal.returns-then-is_short
returns-then-is_short c = pick_yes _ _ _ (sym c.is_short.ensures ∙ c.if-is_short.true) ∙ rest (goal.at.returns-then-is_short c).Else-off_grid

pub is_held_with_other-requires : goal.is_held_with_other-requires
is_held_with_other-requires c = record {
  data_at_in_bounds = (p (goal.at.is_held_with_other-requires c).Else-is_short).requires;
  sent_in_bounds = (fits (goal.at.is_held_with_other-requires c).Else-is_short).0;
  sent_in_bounds_2 = (fits (goal.at.is_held_with_other-requires c).Else-is_short).1;
}

pub returns-then-is_held_with_other : goal.returns-then-is_held_with_other
returns-then-is_held_with_other c = pick_yes _ _ _ (sym c.is_held_with_other.ensures ∙ c.if-is_held_with_other.true) ∙ last (goal.at.returns-then-is_held_with_other c).Else-is_short

pub returns : goal.returns
returns c = pick_no _ _ _ (sym c.is_held_with_other.ensures ∙ c.if-is_held_with_other.false) ∙ last (goal.at.returns c).Else-is_short
