-- A loop that fills a table with a function of each element of another, over any element.
-- Assumes nothing.
use Prim.Native.Nat.{ℕ, ◌+◌, ◌<◌}
use mathlib.Core.Path.{◌≡◌, sym, ap, ap₂, ◌∙◌}
use mathlib.Core.List.{List, [], ◌∷◌, ◌++◌, map, map-append}
use native.Mathlib.Omega.{arith}
use native.Mathlib.Numerals.{add-one}
use lib.ListN.{length, get_or, set, take, length-set}
use lib.Seq.{take_all, take-suc, take-suc-set}

module _ {A B : Type 0} (f : A → B) (l : List A) where
  -- the first i elements of m are f of those of l
  pub record Mapped (m : List B) (i : ℕ) : Type 0 where
    pub sizes : length m ≡ length l
    pub so_far : take i m ≡ map f (take i l)

  pub mapped_next : (m : List B) (i : ℕ) (d : A) (x : B) → i < length l → x ≡ f (get_or l i d) → Mapped m i → Mapped (set m i x) (i + 1)
  mapped_next m i d x h e r =
      let n = r.sizes in
      record {
        sizes = simp length-set n;
        so_far =
            ap (λ (k : ℕ). take k (set m i x)) (add-one i) ∙ take-suc-set m i x (omega arith)
            ∙ ap₂ (λ (a : List B) (b : B). a ++ (b ∷ [])) r.so_far e
            ∙ sym (map-append f (take i l) (get_or l i d ∷ [])) ∙ ap (map f) (sym (take-suc l i d h) ∙ ap (λ (k : ℕ). take k l) (sym (add-one i)));
      }

  pub mapped_all : (m : List B) (i : ℕ) → i ≡ length l → Mapped m i → m ≡ map f l
  mapped_all m i e r =
      let n = r.sizes in
      sym (take_all i m (omega arith)) ∙ r.so_far ∙ ap (map f) (take_all i l (omega arith))
