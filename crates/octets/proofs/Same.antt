-- Two byte strings are the same exactly when the test says so.
-- Assumes nothing.
use Prim.Native.Nat.{ℕ}
use mathlib.Core.Bool.{Bool, true, false}
use mathlib.Core.Path.{◌≡◌, refl, sym, ap₂}
use mathlib.Core.List.{List, [], ◌∷◌}
use borrow.Author.Tests.{eqb-true, eq-eqb}
use lib.Dec.{eqb}
use Rattle.octets.specs.Same.{same_bytes}
use Rattle.octets.proofs.Logic.{not_both, both_true}

pub same_equal : (x y : List ℕ) → same_bytes x y ≡ true → x ≡ y
unfolding same_bytes
same_equal [] [] e = refl
same_equal [] (b ∷ y) e = not_both e
same_equal (a ∷ x) [] e = not_both e
same_equal (a ∷ x) (b ∷ y) e =
    let h = both_true (eqb a b) (same_bytes x y) e in
    ap₂ (λ (u : ℕ) (v : List ℕ). u ∷ v) (eqb-true a b h.0) (same_equal x y h.1)

same_self : (x : List ℕ) → same_bytes x x ≡ true
unfolding same_bytes
same_self [] = refl
same_self (a ∷ x) = rw (eq-eqb a a refl) (same_self x)

pub equal_same : (x y : List ℕ) → x ≡ y → same_bytes x y ≡ true
equal_same x y e = rw (← e) (same_self x)

-- the test is false where the two differ
pub not_same : (x y : List ℕ) → (x ≡ y → ⊥) → same_bytes x y ≡ false
not_same x y differ = by (same_bytes x y) refl
  where
    by : (b : Bool) → same_bytes x y ≡ b → b ≡ false
    by true e = absurd (differ (same_equal x y e))
    by false e = refl

-- an answer that is true exactly when the two are equal is the test
pub is_same : (r : Bool) (x y : List ℕ) → (r ≡ true → x ≡ y) → (x ≡ y → r ≡ true) → r ≡ same_bytes x y
is_same true x y f g = sym (equal_same x y (f refl))
is_same false x y f g = sym (not_same x y (λ e. not_both (g e)))
