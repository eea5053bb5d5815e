-- A string taken apart at its fields, and a table at its entries.
-- Assumes nothing.
use Prim.Native.Nat.{ℕ, zero, suc, ◌+◌, ◌*◌, ◌<◌, ◌≤◌}
use mathlib.Core.Path.{◌≡◌, refl, sym, ap, ap₂, ◌∙◌}
use mathlib.Core.List.{List, ◌∷◌, ◌++◌, append_assoc}
use native.Mathlib.Omega.{arith}
use lib.ListN.{length, drop}
use Rattle.octets.proofs.Fields.{be_split}
use Rattle.eif.specs.Layout.{entry_size}
use Rattle.octets.specs.Bytes.{AreBytes, be_bytes, field, be_bytes_each}
use Rattle.eif.specs.Table.{filled}
use Rattle.eif_lemmas.proofs.Table.{filled_none}

module _ (s : List ℕ) (w : AreBytes s) where
  -- a field whose value is known, and what stands after it
  pub split : (k n at : ℕ) → field k at s ≡ n → at + k ≤ length s → drop at s ≡ be_bytes k n ++ drop (at + k) s
  split k n at e h = be_split s w k at h ∙ ap (λ (x : ℕ). be_bytes k x ++ drop (at + k) s) e

  pub table_split : (n at : ℕ) (g : ℕ → ℕ) → ((i : ℕ) → i < n → field entry_size (at + entry_size * i) s ≡ g i) → at + entry_size * n ≤ length s
      → drop at s ≡ be_bytes_each entry_size (filled g 0 n n) ++ drop (at + entry_size * n) s
  table_split zero at g e h = let z : at ≡ at + entry_size * 0 = omega arith in ap (λ (m : ℕ). drop m s) z
  table_split (suc n) at g e h =
      let y : at ≡ at + entry_size * 0 = omega arith in
      let z : field entry_size at s ≡ g 0 = ap (λ (m : ℕ). field entry_size m s) y ∙ e 0 (omega arith) in
      let q : at + entry_size + entry_size * n ≡ at + entry_size * suc n = omega arith in
      split entry_size (g 0) at z (omega arith)
      ∙ ap (λ (l : List ℕ). be_bytes entry_size (g 0) ++ l)
      (table_split n (at + entry_size) (λ i. g (suc i))
      (λ i l. let r : at + entry_size + entry_size * i ≡ at + entry_size * suc i = omega arith in ap (λ (m : ℕ). field entry_size m s) r ∙ e (suc i) (omega arith)) (omega arith)
      ∙ ap (λ (m : ℕ). be_bytes_each entry_size (filled (λ i. g (suc i)) 0 n n) ++ drop m s) q)
      ∙ sym (append_assoc (be_bytes entry_size (g 0)) (be_bytes_each entry_size (filled (λ i. g (suc i)) 0 n n)) (drop (at + entry_size * suc n) s))

-- a table whose other places are zero
pub filled_full : (f g : ℕ → ℕ) (m n : ℕ) → n ≤ m → ((i : ℕ) → i < n → g i ≡ f i) → ((i : ℕ) → n ≤ i → i < m → g i ≡ 0) → filled g 0 m m ≡ filled f 0 m n
filled_full f g zero n h e z = refl
filled_full f g (suc m) zero h e z =
    ap₂ (λ (x : ℕ) (xs : List ℕ). x ∷ xs) (z 0 (omega arith) (omega arith))
    (filled_full (λ i. f (suc i)) (λ i. g (suc i)) m 0 (omega arith) (λ i l. absurd (omega arith)) (λ i k l. z (suc i) (omega arith) (omega arith)) ∙ filled_none (λ i. f (suc i)) 0 m)
filled_full f g (suc m) (suc n) h e z =
    ap₂ (λ (x : ℕ) (xs : List ℕ). x ∷ xs) (e 0 (omega arith))
    (filled_full (λ i. f (suc i)) (λ i. g (suc i)) m n (omega arith) (λ i l. e (suc i) (omega arith)) (λ i k l. z (suc i) (omega arith) (omega arith)))
