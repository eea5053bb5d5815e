-- One piece: whether its mark is held, whether it is held with other bytes, and what is written. Assumes nothing.
use Prim.Native.Nat.{ℕ, ◌+◌, ◌-◌, ◌/◌, ◌<◌, ◌≤◌}
use mathlib.Core.Path.{◌≡◌, sym, ap, ap₂, ◌∙◌}
use mathlib.Core.Bool.{Bool, true, false, not}
use mathlib.Core.List.{List}
use native.Mathlib.Omega.{arith}
use borrow.Author.Tests.{eq-eqb, ne_eqb, not-false}
use lib.ListN.{length, take, drop, get_or, set}
use Rattle.octets.specs.Over.{over}
use Rattle.octets.specs.Logic.{both, choose}
use Rattle.octets.specs.Same.{same_bytes}
use Rattle.octets.proofs.Same.{equal_same, same_equal}
use Rattle.octets.proofs.Logic.{both_none}
use Rattle.assembler.specs.Records.{piece_size, number_in, data_in, pieces_of, piece_size_at, place_in}
use Rattle.assembler.specs.Rules.{is_held, standing, held_with_other}
use Rattle.assembler.specs.Step.{piece_written, piece_marked}

-- the place of a start in the image has a mark, and its piece lies in the image
pub place_in_holds : (n start : ℕ) → start < n → start / piece_size < pieces_of n
place_in_holds n start h = omega arith

pub piece_in : (n start count : ℕ) → start < n → count ≡ piece_size_at n start → start + count ≤ n
piece_in n start count h e = omega arith

module _ (r y : List ℕ) where
  module _ (n : ℕ) (number_is : n ≡ number_in r) where
    pub held_yes : (get_or y (n / piece_size) 0 ≡ 0 → ⊥) → is_held r y ≡ true
    held_yes h =
        let g : get_or y (place_in r) 0 ≡ 0 → ⊥ = λ e. h (ap (λ (m : ℕ). get_or y (m / piece_size) 0) number_is ∙ e) in
        ap not (ne_eqb _ _ g)

    pub held_no : get_or y (n / piece_size) 0 ≡ 0 → is_held r y ≡ false
    held_no h = ap not (eq-eqb _ _ (sym (ap (λ (m : ℕ). get_or y (m / piece_size) 0) number_is) ∙ h))

  module _ (x : List ℕ) where
    other_by : (b : Bool) → is_held r y ≡ b → both b (not (same_bytes (standing r x) (data_in r))) ≡ held_with_other r x y
    other_by b h = sym (ap (λ (t : Bool). both t (not (same_bytes (standing r x) (data_in r)))) h)

    pub not_held : is_held r y ≡ false → false ≡ held_with_other r x y
    not_held h = other_by false h

    -- the bytes that stand there are those of the piece: what is held agrees
    pub same_agrees : standing r x ≡ data_in r → held_with_other r x y ≡ false
    same_agrees e = ap (λ (t : Bool). both (is_held r y) (not t)) (equal_same (standing r x) (data_in r) e) ∙ both_none (is_held r y)

    -- and back, if it is held
    pub agrees_same : is_held r y ≡ true → held_with_other r x y ≡ false → standing r x ≡ data_in r
    agrees_same h e = same_equal (standing r x) (data_in r) (not-false _ (other_by true h ∙ e))

    pub held_other : (n : ℕ) → n ≡ number_in r → (b : List ℕ) → b ≡ data_in r → is_held r y ≡ true
        → (w : Bool) → w ≡ same_bytes (take (n + length b - n) (drop n x)) b → not w ≡ held_with_other r x y
    held_other n number_is b bytes_are h w e =
        let f : n + length b - n ≡ length b = omega arith in
        ap not (e ∙ ap (λ (m : ℕ). same_bytes (take m (drop n x)) b) f)
        ∙ ap₂ (λ (m : ℕ) (l : List ℕ). not (same_bytes (take (length l) (drop m x)) l)) number_is bytes_are
        ∙ other_by true h

    -- both buffers after a piece is taken, by whether it is held
    pub piece_left : (b : Bool) → is_held r y ≡ b
        → (choose b x (over x (number_in r) (data_in r)) ≡ piece_written r x y) × (choose b y (set y (place_in r) 1) ≡ piece_marked r y)
    piece_left b h =
        (sym (ap (λ (t : Bool). choose t x (over x (number_in r) (data_in r))) h), sym (ap (λ (t : Bool). choose t y (set y (place_in r) 1)) h))
