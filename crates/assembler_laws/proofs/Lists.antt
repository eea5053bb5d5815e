-- Laws of lists that the transfer stands on: bytes written over a part, seen place by place; rows of marks.
-- Assumes nothing.
use Prim.Native.Nat.{ℕ, zero, suc, ◌+◌, ◌-◌, ◌<◌, ◌≤◌}
use mathlib.Core.Path.{◌≡◌, refl, sym, ap, ◌∙◌}
use mathlib.Core.Bool.{Bool, true, false, not}
use mathlib.Core.List.{List, [], ◌∷◌, ◌++◌}
use mathlib.Core.Logic.{◌⊎◌, inl, inr, ⊎_elim}
use native.Mathlib.Omega.{arith}
use borrow.Author.Tests.{eq-eqb, ne_eqb}
use lib.Dec.{eqb}
use lib.ListN.{length, take, drop, get_or, set, length-append, length-drop, get_or-append}
use lib.Seq.{get_or-set_other, get_or-append-add, get_or-drop, ext_get_or}
use Rattle.octets.proofs.Logic.{both_none, not_both, le_or_lt}
use Rattle.octets.specs.Over.{over}
use Rattle.octets.specs.Logic.{both}
use Rattle.octets.proofs.Over.{over_here}
use Rattle.octets.proofs.Fields.{part_byte}
use Rattle.octets.proofs.Value.{field_length}
use Rattle.assembler.specs.Rules.{all_held}

-- ---- over, place by place

pub over_other : (d : List ℕ) (at : ℕ) (bs : List ℕ) (i : ℕ) → (i < at) ⊎ (at + length bs ≤ i) → get_or (over d at bs) i 0 ≡ get_or d i 0
unfolding over
over_other d at [] i h = refl
over_other d at (b ∷ bs) i h =
    over_other (set d at b) (at + 1) bs i (⊎_elim (λ a. inl (omega arith)) (λ a. inr (omega arith)) h)
    ∙ get_or-set_other d at i b 0 (⊎_elim (λ a e. omega arith) (λ a e. omega arith) h)

pub over_in : (d : List ℕ) (at : ℕ) (bs : List ℕ) (j : ℕ) → j < length bs → at + length bs ≤ length d → get_or (over d at bs) (at + j) 0 ≡ get_or bs j 0
over_in d at bs j h f = sym (part_byte (length bs) at j (over d at bs) h) ∙ ap (λ (l : List ℕ). get_or l j 0) (over_here d at bs f (length bs) refl)

-- a part of l is bs, seen place by place
pub part_is : (l : List ℕ) (at : ℕ) (bs : List ℕ) → at + length bs ≤ length l → ((j : ℕ) → j < length bs → get_or l (at + j) 0 ≡ get_or bs j 0)
    → take (length bs) (drop at l) ≡ bs
part_is l at bs h f =
    let n = field_length (length bs) at l h in
    ext_get_or 0 (take (length bs) (drop at l)) bs n (λ j b. let c : j < length bs = omega arith in part_byte (length bs) at j l c ∙ f j c)

-- a list that starts with a and goes on as x
pub starts_with : (l a x : List ℕ) → length l ≡ length x → length a ≤ length x
    → ((i : ℕ) → i < length a → get_or l i 0 ≡ get_or a i 0) → ((i : ℕ) → length a ≤ i → get_or l i 0 ≡ get_or x i 0)
    → l ≡ a ++ drop (length a) x
starts_with l a x e h f g =
    ext_get_or 0 l (a ++ drop (length a) x) (simp (length-append, length-drop) (omega arith))
    (λ i b. ⊎_elim (λ p. after i p) (λ p. f i p ∙ sym (get_or-append a (drop (length a) x) 0 i p)) (le_or_lt (length a) i))
  where
    after : (i : ℕ) → length a ≤ i → get_or l i 0 ≡ get_or (a ++ drop (length a) x) i 0
    after i p =
        let n : i ≡ length a + (i - length a) = omega arith in
        g i p ∙ ap (λ (k : ℕ). get_or x k 0) n ∙ sym (get_or-drop (length a) x (i - length a) 0)
        ∙ sym (get_or-append-add a (drop (length a) x) (i - length a) 0) ∙ sym (ap (λ (k : ℕ). get_or (a ++ drop (length a) x) k 0) n)

-- ---- rows of marks

pub all_held_holds : (y : List ℕ) (p : ℕ) → p ≤ length y → ((k : ℕ) → k < p → get_or y k 0 ≡ 0 → ⊥) → all_held (take p y) ≡ true
unfolding all_held
all_held_holds y zero h f = refl
all_held_holds [] (suc p) h f = absurd (omega arith)
all_held_holds (m ∷ y) (suc p) h f =
    ap (λ (t : Bool). both (not t) (all_held (take p y))) (ne_eqb m 0 (f 0 (omega arith)))
    ∙ all_held_holds y p (omega arith) (λ k b. f (suc k) (omega arith))

pub gap_found : (y : List ℕ) (p k : ℕ) → k < p → k < length y → get_or y k 0 ≡ 0 → all_held (take p y) ≡ false
unfolding all_held
gap_found y zero k a b e = absurd (omega arith)
gap_found [] (suc p) k a b e = absurd (omega arith)
gap_found (m ∷ y) (suc p) zero a b e = ap (λ (t : Bool). both (not t) (all_held (take p y))) (eq-eqb m 0 e)
gap_found (m ∷ y) (suc p) (suc k) a b e =
    ap (both (not (eqb m 0))) (gap_found y p k (omega arith) (omega arith) e) ∙ both_none (not (eqb m 0))

pub no_gap : (y : List ℕ) (p k : ℕ) → all_held (take p y) ≡ true → k < p → p ≤ length y → get_or y k 0 ≡ 0 → ⊥
no_gap y p k all h b e = not_both (sym (gap_found y p k h (omega arith) e) ∙ all)
