-- A record that is longer than any piece is refused by its kind and the turn alone, so a shorter one of that kind that is too long as well
-- stands for it: what the program eif_assemble hands over. Assumes nothing.
use Prim.Native.Nat.{ℕ, ◌%◌, ◌<◌}
use mathlib.Core.Path.{◌≡◌, refl, sym, ap, ◌∙◌}
use mathlib.Core.Bool.{Bool, true, false, not}
use mathlib.Core.List.{List}
use mathlib.Core.Logic.{⊎_elim}
use native.Mathlib.Omega.{arith}
use borrow.Author.Tests.{le-leb, eq-eqb, ne_eqb}
use lib.Dec.{leb, eqb}
use lib.ListN.{length, length-drop}
use Rattle.eif.specs.Numbers.{piece_record_wrong, piece_out_of_turn}
use Rattle.octets.specs.Logic.{both, either, choose}
use Rattle.octets.proofs.Logic.{equal_or_not}
use Rattle.assembler.specs.Records.{data_at, piece_size, number_size, open_kind, piece_kind, close_kind, size_in, kind_in, number_in, data_in, size_fits, formed, piece_size_at, off_grid}
use Rattle.assembler.specs.Rules.{is_opened, fault_of}
use Rattle.assembler.specs.ByKind.{piece_fault}
use Rattle.assembler.specs.declared.State.{State}
use Rattle.assembler.proofs.Form.{formed_fits}
use Rattle.assembler.proofs.Faults.{pick_yes, fault_form, fault_not_open, fault_piece}
use Rattle.assembler_laws.specs.Long.{LongRecord, long_fault}

neither : (a b : Bool) → choose a false (both b false) ≡ false
neither true b = refl
neither false true = refl
neither false false = refl

at_last : (a b : Bool) → either a (either b true) ≡ true
at_last true b = refl
at_last false true = refl
at_last false false = refl

long_off_grid : (n start count : ℕ) → piece_size < count → off_grid n start count ≡ true
unfolding off_grid
long_off_grid n start count h =
    let e : count ≡ piece_size_at n start → ⊥ = λ e. omega arith in
    rw (ne_eqb _ _ e) (at_last (leb n start) (not (eqb (start % piece_size) 0)))

module _ (st : State) (r x y : List ℕ) (long : LongRecord r) where
  form_by : size_fits (kind_in r) (size_in r) ≡ formed r
  form_by = let l = long.longer in formed_fits r (omega arith) (size_in r) refl long.whole (kind_in r) refl

  long_by : (t : Bool) → eqb (kind_in r) piece_kind ≡ t → choose (both t (not (is_opened st))) piece_out_of_turn piece_record_wrong ≡ long_fault st (kind_in r)
  long_by t e = sym (ap (λ (t : Bool). choose (both t (not (is_opened st))) piece_out_of_turn piece_record_wrong) e)

  not_piece : (kind_in r ≡ piece_kind → ⊥) → fault_of st r x y ≡ long_fault st (kind_in r)
  not_piece h =
      let l = long.longer in
      let w = long.whole in
      let a : size_in r ≡ number_size → ⊥ = λ e. omega arith in
      let b : size_in r ≡ 0 → ⊥ = λ e. omega arith in
      let f : size_fits (kind_in r) (size_in r) ≡ false = rw (ne_eqb _ _ h, ne_eqb _ _ a, ne_eqb _ _ b) (neither (eqb (kind_in r) open_kind) (eqb (kind_in r) close_kind)) in
      sym (fault_form st r x y (sym form_by ∙ f)) ∙ long_by false (ne_eqb _ _ h)

  module _ (k : kind_in r ≡ piece_kind) where
    ok : formed r ≡ true
    ok =
        let l = long.longer in
        let w = long.whole in
        let f : leb number_size (size_in r) ≡ true = le-leb number_size (size_in r) (omega arith) in
        sym form_by ∙ ap (λ (n : ℕ). size_fits n (size_in r)) k ∙ f

    by_turn : (t : Bool) → is_opened st ≡ t → fault_of st r x y ≡ choose (not t) piece_out_of_turn piece_record_wrong
    unfolding piece_fault
    by_turn false o = sym (fault_not_open st r x y ok (λ e. omega arith) o)
    by_turn true o =
        let l = long.longer in
        let d = length-drop data_at r in
        sym (pick_yes _ _ _ (long_off_grid st.length (number_in r) (length (data_in r)) (omega arith)) ∙ fault_piece st r x y ok k o)

    is_piece_holds : fault_of st r x y ≡ long_fault st (kind_in r)
    is_piece_holds = by_turn (is_opened st) refl ∙ long_by true (eq-eqb _ _ k)

  pub long_fault_holds : fault_of st r x y ≡ long_fault st (kind_in r)
  long_fault_holds = ⊎_elim is_piece_holds not_piece (equal_or_not (kind_in r) piece_kind)

-- one stands for the other
pub long_alike : (st : State) (r s x y : List ℕ) → LongRecord r → LongRecord s → kind_in r ≡ kind_in s → fault_of st r x y ≡ fault_of st s x y
long_alike st r s x y a b e = long_fault_holds st r x y a ∙ ap (long_fault st) e ∙ sym (long_fault_holds st s x y b)
