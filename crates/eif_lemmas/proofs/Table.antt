-- Laws of a table whose first places are used, over any element, and of lists given by place that are joined.
-- Assumes nothing.
use Prim.Native.Nat.{ℕ, zero, suc, ◌+◌, ◌<◌, ◌≤◌, ◌-◌}
use mathlib.Core.Path.{◌≡◌, refl, sym, ap, ap₂, ◌∙◌}
use mathlib.Core.List.{List, [], ◌∷◌, ◌++◌}
use native.Mathlib.Omega.{arith}
use native.Mathlib.Numerals.{add-one}
use native.Mathlib.Nat.{add-zero, sub-zero, not-suc-le-zero, le_of_suc-le-suc, le_trans}
use lib.ListN.{length, get_or, set, replicate, length-append, length-replicate, take, drop}
use lib.Seq.{take_at, drop_at, drop-drop}
use Rattle.eif.specs.Numbers.{place_count}
use Rattle.octets.specs.Bytes.{AreBytes}
use Rattle.octets.specs.Lists.{All}
use Rattle.octets.proofs.Value.{bytes_append}
use Rattle.eif.specs.Table.{filled, in_table, join_from}

pub filled_none {ℓ} : {A : Type ℓ} (f : ℕ → A) (d : A) (m : ℕ) → filled f d m 0 ≡ replicate m d
filled_none f d zero = refl
filled_none f d (suc m) = refl

pub filled_more {ℓ} : {A : Type ℓ} (f : ℕ → A) (d : A) (m i : ℕ) → i < m → set (filled f d m i) i (f i) ≡ filled f d m (suc i)
filled_more f d zero i h = absurd (not-suc-le-zero h)
filled_more f d (suc m) zero h = ap (λ t. f 0 ∷ t) (sym (filled_none (λ k. f (suc k)) d m))
filled_more f d (suc m) (suc i) h = ap (λ t. f 0 ∷ t) (filled_more (λ k. f (suc k)) d m i (le_of_suc-le-suc h))

-- the same, as a loop stores it
pub filled_next {ℓ} : {A : Type ℓ} (f : ℕ → A) (d x : A) (m i : ℕ) (l : List A) → i < m → l ≡ filled f d m i → x ≡ f i → set l i x ≡ filled f d m (i + 1)
filled_next f d x m i l h e p = rw (e, p, add-one) (filled_more f d m i h)

pub filled_at {ℓ} : {A : Type ℓ} (f : ℕ → A) (d x : A) (m i j : ℕ) → j < i → i ≤ m → get_or (filled f d m i) j x ≡ f j
filled_at f d x zero i j h g = absurd (not-suc-le-zero (le_trans h g))
filled_at f d x (suc m) zero j h g = absurd (not-suc-le-zero h)
filled_at f d x (suc m) (suc i) zero h g = refl
filled_at f d x (suc m) (suc i) (suc j) h g = filled_at (λ k. f (suc k)) d x m i j (le_of_suc-le-suc h) (le_of_suc-le-suc g)

pub filled_past {ℓ} : {A : Type ℓ} (f : ℕ → A) (d : A) (m i j : ℕ) → i ≤ j → get_or (filled f d m i) j d ≡ d
filled_past f d zero i j h = refl
filled_past f d (suc m) zero zero h = refl
filled_past f d (suc m) zero (suc j) h = ap (λ l. get_or l j d) (sym (filled_none f d m)) ∙ filled_past f d m zero j (omega arith)
filled_past f d (suc m) (suc i) zero h = absurd (not-suc-le-zero h)
filled_past f d (suc m) (suc i) (suc j) h = filled_past (λ k. f (suc k)) d m i j (le_of_suc-le-suc h)

pub length_filled {ℓ} : {A : Type ℓ} (f : ℕ → A) (d : A) (m i : ℕ) → length (filled f d m i) ≡ m
length_filled f d zero i = refl
length_filled f d (suc m) zero = ap suc (length-replicate m d)
length_filled f d (suc m) (suc i) = ap suc (length_filled (λ k. f (suc k)) d m i)

pub filled_same {ℓ} : {A : Type ℓ} (f g : ℕ → A) (d : A) (m n : ℕ) → ((j : ℕ) → j < n → f j ≡ g j) → filled f d m n ≡ filled g d m n
filled_same f g d zero n h = refl
filled_same f g d (suc m) zero h = refl
filled_same f g d (suc m) (suc n) h =
    ap₂ (λ x xs. x ∷ xs) (h 0 (omega arith)) (filled_same (λ k. f (suc k)) (λ k. g (suc k)) d m n (λ j l. h (suc j) (omega arith)))

-- ---- what holds of every element

pub all_filled {ℓ} : {A : Type ℓ} (P : A → Type 0) (f : ℕ → A) (d : A) (m n : ℕ) → P d → ((i : ℕ) → i < n → P (f i)) → All P (filled f d m n)
unfolding All
all_filled P f d zero n pd h = tt
all_filled P f d (suc m) zero pd h = (pd, all_replicate m)
  where
    all_replicate : (k : ℕ) → All P (replicate k d)
    all_replicate zero = tt
    all_replicate (suc k) = (pd, all_replicate k)
all_filled P f d (suc m) (suc n) pd h = (h 0 (omega arith), all_filled P (λ k. f (suc k)) d m n pd (λ i l. h (suc i) (omega arith)))

-- what holds of every element holds of the one at i
pub all_at {ℓ} : {A : Type ℓ} (P : A → Type 0) (l : List A) (i : ℕ) (d : A) → i < length l → All P l → P (get_or l i d)
unfolding All
all_at P [] i d h a = absurd (omega arith)
all_at P (x ∷ xs) zero d h a = a.0
all_at P (x ∷ xs) (suc i) d h a = all_at P xs i d (omega arith) a.1

-- ---- a list in a table of 32 places

pub take_table : {A : Type 0} (d : A) (l : List A) → take (length l) (in_table d l) ≡ l
unfolding in_table
take_table d l = take_at l (replicate (place_count - length l) d) (length l) refl

-- ---- lists given by place, joined

pub join_suc : (f : ℕ → List ℕ) (n i : ℕ) → join_from f (suc n) i ≡ f i ++ join_from f n (suc i)
unfolding join_from
join_suc f n i = refl

-- the list at a place before the last, and those after it
pub join_next : (f : ℕ → List ℕ) (count i : ℕ) → i < count → join_from f (count - i) i ≡ f i ++ join_from f (count - suc i) (suc i)
join_next f count i h =
    let n : count - i ≡ suc (count - suc i) = omega arith in
    ap (λ (m : ℕ). join_from f m i) n ∙ join_suc f (count - suc i) i

pub bytes_joined : (f : ℕ → List ℕ) (n i : ℕ) → ((j : ℕ) → AreBytes (f j)) → AreBytes (join_from f n i)
unfolding join_from
bytes_joined f zero i w = tt
bytes_joined f (suc n) i w = bytes_append (f i) (join_from f n (suc i)) (w i) (bytes_joined f n (suc i) w)

pub join_same : (f g : ℕ → List ℕ) (n i : ℕ) → ((j : ℕ) → j < i + n → f j ≡ g j) → join_from f n i ≡ join_from g n i
unfolding join_from
join_same f g zero i h = refl
join_same f g (suc n) i h = ap₂ (λ (x y : List ℕ). x ++ y) (h i (omega arith)) (join_same f g n (suc i) (λ j l. h j (omega arith)))

module _ (f : ℕ → List ℕ) (at : ℕ → ℕ) (count : ℕ) where
  -- where each starts at the end of the one before
  module _ (next : (i : ℕ) → i < count → at (suc i) ≡ at i + length (f i)) where
    -- they end where the last one does
    pub join_end : (n i : ℕ) → i + n ≡ count → at i + length (join_from f n i) ≡ at count
    unfolding join_from
    join_end zero i e = let z : i ≡ count = omega arith in add-zero (at i) ∙ ap at z
    join_end (suc n) i e =
        let h = length-append (f i) (join_from f n (suc i)) in
        let r = join_end n (suc i) (omega arith) in
        let q = next i (omega arith) in
        ap (λ (m : ℕ). at i + m) h ∙ (omega arith)

    -- in a list that has them from a place on, each stands at its start
    pub join_from_holds : (s : List ℕ) → drop (at 0) s ≡ join_from f count 0 → (i : ℕ) → i ≤ count → drop (at i) s ≡ join_from f (count - i) i
    join_from_holds s all zero h = all ∙ ap (λ (n : ℕ). join_from f n 0) (sym (sub-zero count))
    join_from_holds s all (suc i) h =
        ap (λ (m : ℕ). drop m s) (next i h)
        ∙ sym (drop-drop (length (f i)) (at i) s)
        ∙ ap (drop (length (f i))) (join_from_holds s all i (omega arith) ∙ join_next f count i h)
        ∙ drop_at (f i) (join_from f (count - suc i) (suc i)) (length (f i)) refl

  -- a list in which each stands before what follows it has them joined
  pub join_split : (s : List ℕ) → ((i : ℕ) → i < count → drop (at i) s ≡ f i ++ drop (at (suc i)) s) → drop (at count) s ≡ []
      → (n i : ℕ) → i + n ≡ count → drop (at i) s ≡ join_from f n i
  unfolding join_from
  join_split s each last zero i e = let z : i ≡ count = omega arith in ap (λ (k : ℕ). drop (at k) s) z ∙ last
  join_split s each last (suc n) i e = each i (omega arith) ∙ ap (λ (l : List ℕ). f i ++ l) (join_split s each last n (suc i) (omega arith))
