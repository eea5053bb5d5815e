-- Lists joined, and the pieces that a plan takes of them: the pieces of joined data are that data, and back.
-- Assumes nothing.
use Prim.Native.Nat.{ℕ, suc, ◌+◌, ◌-◌, ◌<◌}
use mathlib.Core.Path.{◌≡◌, sym, ap, ◌∙◌}
use mathlib.Core.List.{List, ◌++◌}
use native.Mathlib.Omega.{arith}
use lib.ListN.{length, take, drop, take-append-drop}
use lib.Seq.{take_at, drop-drop, drop-length}
use Rattle.eif.specs.Table.{join_from}
use Rattle.eif.specs.Plan.{planned_size, data_before, piece_at}
use Rattle.eif.specs.declared.Place.{Place}
use Rattle.plain_laws.proofs.Shape.{before_zero, before_suc}
use Rattle.eif_lemmas.proofs.Table.{join_next, join_from_holds, join_end, join_split}

-- ---- lists of the planned lengths, joined: the pieces are the lists

module _ (l : List Place) (count : ℕ) (f : ℕ → List ℕ) (sized : (i : ℕ) → i < count → length (f i) ≡ planned_size l i) where
  abbrev all_pieces_holds : List ℕ
  all_pieces_holds = join_from f count 0

  next_piece : (i : ℕ) → i < count → data_before l (suc i) ≡ data_before l i + length (f i)
  next_piece i h = before_suc l i ∙ ap (λ (m : ℕ). data_before l i + m) (sym (sized i h))

  pub piece_is : (i : ℕ) → i < count → piece_at l all_pieces_holds i ≡ f i
  piece_is i h =
      ap (take (planned_size l i))
      (join_from_holds f (data_before l) count next_piece all_pieces_holds (ap (λ (n : ℕ). drop n all_pieces_holds) (before_zero l)) i (omega arith) ∙ join_next f count i h)
      ∙ take_at (f i) (join_from f (count - suc i) (suc i)) (planned_size l i) (sized i h)

  pub length_joined : length all_pieces_holds ≡ data_before l count
  length_joined = let e = join_end f (data_before l) count next_piece count 0 (omega arith) in let z = before_zero l in omega arith

-- ---- data of the plan's sum of lengths: its pieces joined are the data

module _ (l : List Place) (count : ℕ) (d : List ℕ) (sized : length d ≡ data_before l count) where
  piece_before : (i : ℕ) → i < count → drop (data_before l i) d ≡ piece_at l d i ++ drop (data_before l (suc i)) d
  piece_before i h =
      sym (ap (λ (r : List ℕ). piece_at l d i ++ r) (ap (λ (m : ℕ). drop m d) (before_suc l i) ∙ sym (drop-drop (planned_size l i) (data_before l i) d))
      ∙ take-append-drop (planned_size l i) (drop (data_before l i) d))

  pub pieces_joined : join_from (piece_at l d) count 0 ≡ d
  pieces_joined =
      sym (join_split (piece_at l d) (data_before l) count d piece_before (ap (λ (m : ℕ). drop m d) (sym sized) ∙ drop-length d) count 0 (omega arith))
      ∙ ap (λ (m : ℕ). drop m d) (before_zero l)
