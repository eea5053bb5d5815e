-- From what a chain of tests answers back to the tests, and cases on tests and numbers.
-- Assumes nothing.
use Prim.Native.Nat.{ℕ, suc, ◌+◌, ◌-◌, ◌<◌, ◌≤◌}
use mathlib.Core.Path.{◌≡◌, refl, sym, ◌∙◌}
use mathlib.Core.Bool.{Bool, true, false}
use mathlib.Core.Logic.{◌⊎◌, inl, inr, ⊎_elim}
use native.Mathlib.Omega.{arith}
use native.Mathlib.Decide.{dec_le}
use borrow.Author.Tests.{eqb-true, eqb-false, lt-ltb, le-ltb}
use lib.Dec.{eqb, ltb}
use Rattle.octets.specs.Logic.{choose, both, either}

-- what holds of both holds of the chosen one
pub choose_holds {ℓ} : {A : Type ℓ} (P : A → Type 0) (b : Bool) (x y : A) → (b ≡ true → P x) → (b ≡ false → P y) → P (choose b x y)
choose_holds P true x y f g = f refl
choose_holds P false x y f g = g refl

-- a function of the chosen one is chosen
pub choose_ap {ℓ k} : {A : Type ℓ} {B : Type k} (f : A → B) (b : Bool) (x y : A) → f (choose b x y) ≡ choose b (f x) (f y)
choose_ap f true x y = refl
choose_ap f false x y = refl

pub choose_zero : (b : Bool) (n r : ℕ) → choose b (suc n) r ≡ 0 → (b ≡ false) × (r ≡ 0)
choose_zero true n r e = absurd (omega arith)
choose_zero false n r e = (refl, e)

pub not_both {ℓ} : {A : Type ℓ} → false ≡ true → A
not_both e = let z : ◌≡◌ {A = ℕ} 0 1 = cc in absurd (omega arith)

pub both_true : (a b : Bool) → both a b ≡ true → (a ≡ true) × (b ≡ true)
both_true true b e = (refl, e)
both_true false b e = not_both e

pub both_none : (b : Bool) → both b false ≡ false
both_none true = refl
both_none false = refl

pub either_false : (a b : Bool) → either a b ≡ false → (a ≡ false) × (b ≡ false)
either_false true b e = not_both (sym e)
either_false false b e = (refl, e)

pub true_or_false : (b : Bool) → (b ≡ true) ⊎ (b ≡ false)
true_or_false true = inl refl
true_or_false false = inr refl

pub equal_or_not : (a b : ℕ) → (a ≡ b) ⊎ (a ≡ b → ⊥)
equal_or_not a b = go (eqb a b) refl
  where
    go : (t : Bool) → eqb a b ≡ t → (a ≡ b) ⊎ (a ≡ b → ⊥)
    go true e = inl (eqb-true a b e)
    go false e = inr (eqb-false a b e)

pub le_or_lt : (m n : ℕ) → (m ≤ n) ⊎ (n < m)
le_or_lt m n = elim (dec_le m n) [ yes h ↦ inl h | no h ↦ inr (omega arith) ]

-- a number compared with what another leaves of a limit
pub left_over : (limit a b : ℕ) → a ≤ limit → ltb (limit - a) b ≡ ltb limit (a + b)
left_over limit a b h =
    ⊎_elim
    (λ (g : a + b ≤ limit). le-ltb (limit - a) b (omega arith) ∙ sym (le-ltb limit (a + b) g))
    (λ (g : limit < a + b). lt-ltb (limit - a) b (omega arith) ∙ sym (lt-ltb limit (a + b) g))
    (le_or_lt (a + b) limit)
