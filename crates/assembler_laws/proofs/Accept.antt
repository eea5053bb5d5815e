-- From plain facts to no fault: when an open, a piece and a close are taken, and when a close is not. Assumes nothing.
use Prim.Native.Nat.{ℕ, ◌≤◌}
use mathlib.Core.Path.{◌≡◌, sym, ap, ap₂, ◌∙◌}
use mathlib.Core.Bool.{true, false, not}
use mathlib.Core.List.{List}
use native.Mathlib.Omega.{arith}
use borrow.Author.Tests.{lt-leb, le-ltb, eq-eqb}
use lib.ListN.{length, take}
use Rattle.eif.specs.Numbers.{size_limit, piece_missing}
use Rattle.octets.specs.Logic.{either, choose}
use Rattle.assembler.specs.Records.{number_in, data_in, pieces_of, off_grid}
use Rattle.assembler.specs.Rules.{all_held, held_with_other, too_small, shorter_than_at_open, short_for, fault_of, is_opened}
use Rattle.assembler.specs.ByKind.{open_fault, piece_fault, close_fault}
use Rattle.assembler.specs.Step.{open_state}
use Rattle.assembler.specs.declared.State.{State}
use Rattle.assembler.proofs.Faults.{pick_yes, pick_no, fault_open, fault_piece, fault_close, LongEnough}
use Rattle.assembler_laws.specs.Run.{Announces, PieceFor, Close}

grid_fine : (n : ℕ) (r : List ℕ) → PieceFor n r → off_grid n (number_in r) (length (data_in r)) ≡ false
unfolding off_grid
grid_fine n r p = simp (lt-leb _ _ p.inside, eq-eqb _ _ p.on_grid, eq-eqb _ _ p.bytes_are)

room_fine : (n image marks : ℕ) → n ≤ image → pieces_of n ≤ marks → too_small n image marks ≡ false
unfolding too_small
room_fine n image marks a b = simp (le-ltb _ _ a, le-ltb _ _ b)

kept_fine : (st : State) (image marks : ℕ) → st.room ≤ image → st.places ≤ marks → shorter_than_at_open st image marks ≡ false
unfolding shorter_than_at_open
kept_fine st image marks a b = simp (le-ltb _ _ a, le-ltb _ _ b)

not_short : (st : State) (image marks : ℕ) → LongEnough st image marks → short_for st image marks ≡ false
not_short st image marks h = ap₂ either (kept_fine st image marks h.image_kept h.marks_kept) (room_fine st.length image marks h.image_room h.mark_room)

-- buffers with room for an image are long enough for the state that an open leaves
pub open_enough : (n image marks : ℕ) → n ≤ image → pieces_of n ≤ marks → LongEnough (open_state n image marks) image marks
open_enough n image marks a b = record { image_room = a; mark_room = b; image_kept = omega arith; marks_kept = omega arith }

module _ (st : State) (r x y : List ℕ) where
  pub open_fine : (n : ℕ) → Announces n r → is_opened st ≡ false → n ≤ size_limit → n ≤ length x → pieces_of n ≤ length y → fault_of st r x y ≡ 0
  unfolding open_fault
  open_fine n o c a b p =
      sym
      (pick_no _ _ _ (room_fine n (length x) (length y) b p) ∙ pick_no _ _ _ (le-ltb size_limit n a)
      ∙ sym (ap (λ (k : ℕ). open_fault k (length x) (length y)) o.announced) ∙ fault_open st r x y o.form o.kind c)

  module _ (open_now : is_opened st ≡ true) (enough : LongEnough st (length x) (length y)) where
    pub piece_fine : PieceFor st.length r → held_with_other r x y ≡ false → fault_of st r x y ≡ 0
    unfolding piece_fault
    piece_fine p d =
        sym
        (pick_no _ _ _ d ∙ pick_no _ _ _ (not_short st (length x) (length y) enough)
        ∙ pick_no _ _ _ (grid_fine st.length r p)
        ∙ fault_piece st r x y p.form p.kind open_now)

    module _ (c : Close r) where
      at_close : choose (not (all_held (take (pieces_of st.length) y))) piece_missing 0 ≡ fault_of st r x y
      unfolding close_fault
      at_close = pick_no _ _ _ (not_short st (length x) (length y) enough) ∙ fault_close st r x y c.form c.kind open_now

      pub close_fine : all_held (take (pieces_of st.length) y) ≡ true → fault_of st r x y ≡ 0
      close_fine h = sym (pick_no _ _ _ (ap not h) ∙ at_close)

      pub close_lacks : all_held (take (pieces_of st.length) y) ≡ false → fault_of st r x y ≡ piece_missing
      close_lacks h = sym (pick_yes _ _ _ (ap not h) ∙ at_close)
