-- The first rule that applies: by the record's kind, and from no fault back to every rule as a plain fact. Assumes nothing.
use Prim.Native.Nat.{ℕ, suc, ◌%◌, ◌<◌, ◌≤◌}
use mathlib.Core.Path.{◌≡◌, refl, sym, ap, ◌∙◌}
use mathlib.Core.Bool.{Bool, true, false, not}
use mathlib.Core.List.{List}
use native.Mathlib.Omega.{arith}
use borrow.Author.Tests.{eq-eqb, ne_eqb, leb-false, ltb-false, eqb-true, not-false}
use lib.Dec.{ltb}
use lib.ListN.{length, take}
use Rattle.eif.specs.Numbers.{size_limit, piece_record_wrong, piece_out_of_turn, buffer_too_short, piece_differs, piece_missing}
use Rattle.octets.specs.Logic.{choose}
use Rattle.octets.proofs.Logic.{choose_zero, either_false}
use Rattle.assembler.specs.Records.{data_at, piece_size, open_kind, piece_kind, close_kind, kind_in, number_in, data_in, is_open, formed, pieces_of, piece_size_at, off_grid}
use Rattle.assembler.specs.Rules.{is_opened, out_of_turn, too_small, shorter_than_at_open, short_for, held_with_other, all_held, fault_of}
use Rattle.assembler.specs.ByKind.{open_fault, piece_fault, close_fault}
use Rattle.assembler.specs.declared.State.{State}
use Rattle.assembler.proofs.Form.{formed_piece}

-- ---- rules on numbers, back to plain facts

-- a start inside an image of n bytes and on its grid, and as many bytes as belong there
pub record OnGrid (n start count : ℕ) : Type 0 where
  pub inside : start < n
  pub on_grid : start % piece_size ≡ 0
  pub sized : count ≡ piece_size_at n start

pub grid_in : (n start count : ℕ) → off_grid n start count ≡ false → OnGrid n start count
unfolding off_grid
grid_in n start count e =
    let a = either_false _ _ e in
    let b = either_false _ _ a.1 in
    record { inside = leb-false _ _ a.0; on_grid = eqb-true _ _ (not-false _ b.0); sized = eqb-true _ _ (not-false _ b.1) }

pub room_in : (n image marks : ℕ) → too_small n image marks ≡ false → (n ≤ image) × (pieces_of n ≤ marks)
unfolding too_small
room_in n image marks e =
    let a = either_false _ _ e in
    (ltb-false _ _ a.0, ltb-false _ _ a.1)

-- buffers of these lengths are long enough for what a state says
pub record LongEnough (st : State) (image marks : ℕ) : Type 0 where
  pub image_room : st.length ≤ image
  pub mark_room : pieces_of st.length ≤ marks
  pub image_kept : st.room ≤ image
  pub marks_kept : st.places ≤ marks

pub long_enough : (st : State) (image marks : ℕ) → short_for st image marks ≡ false → LongEnough st image marks
unfolding shorter_than_at_open
long_enough st image marks e =
    let a = either_false (shorter_than_at_open st image marks) (too_small st.length image marks) e in
    let b = either_false (ltb image st.room) (ltb marks st.places) a.0 in
    let c = room_in st.length image marks a.1 in
    record { image_room = c.0; mark_room = c.1; image_kept = ltb-false _ _ b.0; marks_kept = ltb-false _ _ b.1 }

-- ---- one rule of a chain

pub pick_yes : (b : Bool) (m n : ℕ) → b ≡ true → m ≡ choose b m n
pick_yes b m n e = sym (ap (λ (t : Bool). choose t m n) e)

pub pick_no : (b : Bool) (m n : ℕ) → b ≡ false → n ≡ choose b m n
pick_no b m n e = sym (ap (λ (t : Bool). choose t m n) e)

second_no : (a b : Bool) (m n k : ℕ) → choose a (suc m) (choose b (suc n) k) ≡ 0 → b ≡ false
second_no a b m n k e = (choose_zero b n k (choose_zero a m (choose b (suc n) k) e).1).0

-- ---- by kind

module _ (st : State) (r x y : List ℕ) where
  pub fault_form : formed r ≡ false → piece_record_wrong ≡ fault_of st r x y
  unfolding fault_of
  fault_form e = rw e refl

  module _ (ok : formed r ≡ true) where
    pub fault_open_twice : kind_in r ≡ open_kind → is_opened st ≡ true → piece_out_of_turn ≡ fault_of st r x y
    unfolding fault_of
    fault_open_twice k o = rw (ok, k, o) refl

    pub fault_open : kind_in r ≡ open_kind → is_opened st ≡ false → open_fault (number_in r) (length x) (length y) ≡ fault_of st r x y
    unfolding fault_of open_fault
    fault_open k o = rw (ok, k, o) refl

    pub fault_not_open : (kind_in r ≡ open_kind → ⊥) → is_opened st ≡ false → piece_out_of_turn ≡ fault_of st r x y
    unfolding fault_of
    fault_not_open h o = rw (ok, ne_eqb _ _ h, o) refl

    pub fault_piece : kind_in r ≡ piece_kind → is_opened st ≡ true → piece_fault st r x y ≡ fault_of st r x y
    unfolding fault_of piece_fault
    fault_piece k o = rw (ok, k, o) refl

    pub fault_close : kind_in r ≡ close_kind → is_opened st ≡ true → close_fault st (length x) y ≡ fault_of st r x y
    unfolding fault_of close_fault
    fault_close k o = rw (ok, k, o) refl

-- ---- from no fault back to the rules

pub record OpenTaken (st : State) (r x y : List ℕ) : Type 0 where
  pub not_open : is_opened st ≡ false
  pub within_limit : number_in r ≤ size_limit
  pub image_room : number_in r ≤ length x
  pub mark_room : pieces_of (number_in r) ≤ length y

pub record PieceTaken (st : State) (r x y : List ℕ) : Type 0 where
  pub whole : data_at ≤ length r
  pub open_now : is_opened st ≡ true
  pub grid : OnGrid st.length (number_in r) (length (data_in r))
  pub enough : LongEnough st (length x) (length y)
  pub agrees : held_with_other r x y ≡ false

pub record CloseTaken (st : State) (y : List ℕ) : Type 0 where
  pub open_now : is_opened st ≡ true
  pub all_here : all_held (take (pieces_of st.length) y) ≡ true

module _ (st : State) (r x y : List ℕ) (z : fault_of st r x y ≡ 0) where
  pub accepted_form : formed r ≡ true
  unfolding fault_of
  accepted_form = not-false _ (choose_zero _ _ _ z).0

  in_turn : out_of_turn st r ≡ false
  unfolding fault_of
  in_turn = second_no (not (formed r)) (out_of_turn st r) _ _ _ z

  by_turn : (t : Bool) → is_open r ≡ t → choose t (is_opened st) (not (is_opened st)) ≡ false
  by_turn t e = sym (ap (λ (u : Bool). choose u (is_opened st) (not (is_opened st))) e) ∙ in_turn

  opened_now : (kind_in r ≡ open_kind → ⊥) → is_opened st ≡ true
  opened_now h = not-false (is_opened st) (by_turn false (ne_eqb _ _ h))

  pub accepted_open : kind_in r ≡ open_kind → OpenTaken st r x y
  unfolding open_fault
  accepted_open k =
      let o = by_turn true (eq-eqb _ _ k) in
      let f = choose_zero _ _ _ (fault_open st r x y accepted_form k o ∙ z) in
      let g = room_in _ _ _ (choose_zero _ _ _ f.1).0 in
      record { not_open = o; within_limit = ltb-false _ _ f.0; image_room = g.0; mark_room = g.1 }

  pub accepted_piece : kind_in r ≡ piece_kind → PieceTaken st r x y
  unfolding piece_fault
  accepted_piece k =
      let o = opened_now (λ e. omega arith) in
      let off = off_grid st.length (number_in r) (length (data_in r)) in
      let short = short_for st (length x) (length y) in
      let last = choose (held_with_other r x y) piece_differs 0 in
      let f = choose_zero off _ (choose short buffer_too_short last) (fault_piece st r x y accepted_form k o ∙ z) in
      let h = choose_zero short _ last f.1 in
      record {
        whole = formed_piece r accepted_form k;
        open_now = o;
        grid = grid_in st.length (number_in r) (length (data_in r)) f.0;
        enough = long_enough st (length x) (length y) h.0;
        agrees = (choose_zero (held_with_other r x y) _ 0 h.1).0;
      }

  pub accepted_close : kind_in r ≡ close_kind → CloseTaken st y
  unfolding close_fault
  accepted_close k =
      let o = opened_now (λ e. omega arith) in
      let all = all_held (take (pieces_of st.length) y) in
      let short = short_for st (length x) (length y) in
      let f = choose_zero short _ (choose (not all) piece_missing 0) (fault_close st r x y accepted_form k o ∙ z) in
      record { open_now = o; all_here = not-false all (choose_zero (not all) _ 0 f.1).0 }
