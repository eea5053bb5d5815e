-- Lists of two parts, an empty one, what is joined of two, elements taken in one after the other, and the values of a function below a
-- number.
-- Assumes nothing.
use Prim.Native.Nat.{ℕ, zero, suc, ◌+◌, ◌-◌, ◌<◌, min, ◌≤◌}
use mathlib.Core.Path.{◌≡◌, refl, sym, ap, ap₂, subst, ◌∙◌}
use mathlib.Core.List.{List, [], ◌∷◌, ◌++◌, map, append_assoc, head_d, tail}
use mathlib.Core.Logic.{⊎_elim}
use native.Mathlib.Omega.{arith}
use native.Mathlib.Nat.{sub-zero, zero-sub, suc-sub-suc, not-suc-le-zero, le_of_suc-le-suc, eq-or-lt_of_le}
use lib.ListN.{length, take, drop, get_or, length-append, drop_of_length-le}
use lib.Seq.{take-nil, drop-nil, drop-cons, take_all, take-length, drop-length}
use Rattle.octets.proofs.Logic.{le_or_lt}
use Rattle.octets.specs.Lists.{All, joined_by, sum_by}

pub take_both : (n : ℕ) (x y : List ℕ) → take n (x ++ y) ≡ take n x ++ take (n - length x) y
take_both n [] y = simp (take-nil, sub-zero)
take_both zero (b ∷ x) y = simp zero-sub
take_both (suc n) (b ∷ x) y = ap (λ (l : List ℕ). b ∷ l) (take_both n x y) ∙ simp suc-sub-suc

pub drop_both : (n : ℕ) (x y : List ℕ) → drop n (x ++ y) ≡ drop n x ++ drop (n - length x) y
drop_both n [] y = simp (drop-nil, sub-zero)
drop_both zero (b ∷ x) y = simp zero-sub
drop_both (suc n) (b ∷ x) y = drop_both n x y ∙ simp suc-sub-suc

pub none_of : (l : List ℕ) → length l ≡ 0 → l ≡ []
none_of [] e = refl
none_of (x ∷ xs) e = absurd (omega arith)

pub all_map : {A : Type 0} (P Q : A → Type 0) → ((x : A) → P x → Q x) → (l : List A) → All P l → All Q l
unfolding All
all_map P Q f [] a = tt
all_map P Q f (x ∷ xs) a = (f x a.0, all_map P Q f xs a.1)

-- ---- a part, cut to what there is

by_min : {A : Type 0} (f : ℕ → List A) (m n : ℕ) → (n < m → f n ≡ f m) → f (min m n) ≡ f m
by_min f m n past =
    ⊎_elim
    (λ (h : m ≤ n). let e : min m n ≡ m = omega arith in ap f e)
    (λ (h : n < m). let e : min m n ≡ n = omega arith in ap f e ∙ past h)
    (le_or_lt m n)

pub take_min : {A : Type 0} (m : ℕ) (l : List A) → take (min m (length l)) l ≡ take m l
take_min m l = by_min (λ (n : ℕ). take n l) m (length l) (λ h. take-length l ∙ sym (take_all m l (omega arith)))

pub drop_min : {A : Type 0} (m : ℕ) (l : List A) → drop (min m (length l)) l ≡ drop m l
drop_min m l = by_min (λ (n : ℕ). drop n l) m (length l) (λ h. drop-length l ∙ sym (drop_of_length-le l {i = m} (omega arith)))

-- ---- joined

-- what a function gives of each element, of two lists joined
pub joined_append : {A : Type 0} (f : A → List ℕ) (k l : List A) → joined_by f (k ++ l) ≡ joined_by f k ++ joined_by f l
joined_append f [] l = refl
joined_append f (x ∷ xs) l = ap (λ (b : List ℕ). f x ++ b) (joined_append f xs l) ∙ sym (append_assoc (f x) (joined_by f xs) (joined_by f l))

pub joined_map : {A B : Type 0} (g : B → List ℕ) (f : A → B) (l : List A) → joined_by g (map f l) ≡ joined_by (λ x. g (f x)) l
joined_map g f [] = refl
joined_map g f (x ∷ xs) = ap (λ (b : List ℕ). g (f x) ++ b) (joined_map g f xs)

-- ---- numbers of each element, added up

pub sum_append : {A : Type 0} (f : A → ℕ) (k l : List A) → sum_by f (k ++ l) ≡ sum_by f k + sum_by f l
sum_append f [] l = omega arith
sum_append f (x ∷ xs) l = let r = sum_append f xs l in omega arith

pub sum_same : {A : Type 0} (f g : A → ℕ) (l : List A) → All (λ x. f x ≡ g x) l → sum_by f l ≡ sum_by g l
unfolding All
sum_same f g [] a = refl
sum_same f g (x ∷ xs) a = ap₂ (λ (m n : ℕ). m + n) a.0 (sum_same f g xs a.1)

-- how long what is joined is
pub joined_length : {A : Type 0} (f : A → List ℕ) (l : List A) → length (joined_by f l) ≡ sum_by (λ x. length (f x)) l
joined_length f [] = refl
joined_length f (x ∷ xs) = length-append (f x) (joined_by f xs) ∙ ap (λ (n : ℕ). length (f x) + n) (joined_length f xs)

-- ---- one after the other

-- from element i on, and past the last
module _ {A : Type 0} (f : A → List ℕ) (l : List A) (x : A) (i : ℕ) where
  pub joined_next : i < length l → joined_by f (drop i l) ≡ f (get_or l i x) ++ joined_by f (drop (suc i) l)
  joined_next h = ap (joined_by f) (drop-cons l i x h)

  pub joined_none : length l ≤ i → joined_by f (drop i l) ≡ []
  joined_none h = ap (joined_by f) (drop_of_length-le l h)

-- elements taken in one after the other: two lists joined are the one and then the other
pub taken_append : {A B : Type 0} (g : A → List B → A) → ((a : A) → g a [] ≡ a) → ((a : A) (b : B) (l : List B) → g a (b ∷ l) ≡ g (g a (b ∷ [])) l)
    → (a : A) (x y : List B) → g a (x ++ y) ≡ g (g a x) y
taken_append g none next a [] y = ap (λ z. g z y) (sym (none a))
taken_append g none next a (b ∷ x) y = next a b (x ++ y) ∙ taken_append g none next (g a (b ∷ [])) x y ∙ ap (λ z. g z y) (sym (next a b x))

-- a function's values below n, the last one first: two functions that agree there are compared by computation
abbrev pub values_below : {A : Type 0} → ℕ → (ℕ → A) → List A
values_below zero f = []
values_below (suc n) f = f n ∷ values_below n f

pub each_below : {A : Type 0} (d : A) (f g : ℕ → A) (n : ℕ) → values_below n f ≡ values_below n g → (b : ℕ) → b < n → f b ≡ g b
unfolding head_d
each_below d f g zero e b h = absurd (not-suc-le-zero h)
each_below d f g (suc n) e b h =
    ⊎_elim
    (λ (q : b ≡ n). subst (λ (m : ℕ). f m ≡ g m) (sym q) (ap (λ l. head_d l d) e))
    (λ (q : b < n). each_below d f g n (ap tail e) b q)
    (eq-or-lt_of_le (le_of_suc-le-suc h))
