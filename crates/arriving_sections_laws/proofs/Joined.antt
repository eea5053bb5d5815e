-- Lists given by place and joined, where the last list that is not empty grows.
use Prim.Native.Nat.{ℕ, zero, suc, ◌+◌, ◌*◌, ◌<◌, ◌≤◌}
use mathlib.Core.Path.{◌≡◌, refl, sym, ap, ap₂, ◌∙◌}
use mathlib.Core.List.{List, [], ◌++◌, append_assoc, append-nil}
use mathlib.Core.Logic.{⊎_elim}
use native.Mathlib.Omega.{arith}
use native.Mathlib.Nat.{suc-mul}
use lib.ListN.{length, length-append}
use Rattle.octets.proofs.Logic.{equal_or_not}
use Rattle.eif.specs.Table.{join_from}

-- if every list is empty, so is the joined list
pub join_none : (f : ℕ → List ℕ) (m i : ℕ) → ((j : ℕ) → i ≤ j → f j ≡ []) → join_from f m i ≡ []
unfolding join_from
join_none f zero i h = refl
join_none f (suc m) i h = ap₂ (λ (x y : List ℕ). x ++ y) (h i (omega arith)) (join_none f m (suc i) (λ j l. h j (omega arith)))

-- if the list at place k grows by q, and the lists after it are empty, the joined list grows by q
pub join_more : (f g : ℕ → List ℕ) (k : ℕ) (q : List ℕ) → ((j : ℕ) → (j ≡ k → ⊥) → g j ≡ f j) → g k ≡ f k ++ q → ((j : ℕ) → k < j → f j ≡ [])
    → (m i : ℕ) → i ≤ k → k < i + m → join_from g m i ≡ join_from f m i ++ q
unfolding join_from
join_more f g k q other more none zero i h l = absurd (omega arith)
join_more f g k q other more none (suc m) i h l =
    ⊎_elim
    (λ (e : i ≡ k).
    let a : join_from f m (suc i) ≡ [] = join_none f m (suc i) (λ j b. none j (omega arith)) in
    let b : join_from g m (suc i) ≡ [] = join_none g m (suc i) (λ j b. other j (λ z. omega arith) ∙ none j (omega arith)) in
    ap₂ (λ (x y : List ℕ). x ++ y) (ap g e ∙ more) b ∙ append-nil (f k ++ q)
    ∙ sym (ap₂ (λ (x y : List ℕ). (x ++ y) ++ q) (ap f e) a ∙ ap (λ (x : List ℕ). x ++ q) (append-nil (f k))))
    (λ (n : i ≡ k → ⊥).
    ap₂ (λ (x y : List ℕ). x ++ y) (other i n) (join_more f g k q other more none m (suc i) (omega arith) (omega arith))
    ∙ sym (append_assoc (f i) (join_from f m (suc i)) q))
    (equal_or_not i k)

-- if each of m lists has at most n elements, the joined list has at most m * n
pub join_few : (f : ℕ → List ℕ) (n : ℕ) → ((j : ℕ) → length (f j) ≤ n) → (m i : ℕ) → length (join_from f m i) ≤ m * n
unfolding join_from
join_few f n h zero i = omega arith
join_few f n h (suc m) i =
    let r = join_few f n h m (suc i) in
    let l = h i in
    let e : suc m * n ≡ m * n + n = suc-mul m n in
    omega (arith, length-append (f i) (join_from f m (suc i)))
