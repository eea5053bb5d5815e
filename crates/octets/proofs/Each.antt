-- Numbers one after the other, w bytes each: how many bytes these are. And what is given of each element of a list, written one after the
-- other.
-- Assumes nothing.
use Prim.Native.Nat.{ℕ, suc, ◌+◌, ◌*◌, ◌<◌, ◌≤◌}
use mathlib.Core.Path.{◌≡◌, sym, ap, ap₂, ◌∙◌}
use mathlib.Core.List.{List, [], ◌∷◌}
use native.Mathlib.Nat.{add_comm, mul-zero, mul-suc}
use lib.ListN.{length, drop, get_or, length-append}
use Rattle.octets.specs.Bytes.{AreBytes, be_bytes, be_bytes_each}
use Rattle.octets.specs.Lists.{joined_by}
use Rattle.octets.specs.Over.{over}
use Rattle.octets.proofs.Value.{bytes_append, bytes_be, length_be_bytes}
use Rattle.octets.proofs.Over.{over_split}
use Rattle.octets.proofs.Lists.{joined_next, joined_none}

pub length_each : (w : ℕ) (l : List ℕ) → length (be_bytes_each w l) ≡ w * length l
length_each w [] = sym (mul-zero w)
length_each w (n ∷ ns) =
    length-append (be_bytes w n) (be_bytes_each w ns) ∙ ap₂ (λ (a b : ℕ). a + b) (length_be_bytes w n) (length_each w ns)
    ∙ add_comm w (w * length ns) ∙ sym (mul-suc w (length ns))

pub bytes_each : (w : ℕ) (l : List ℕ) → AreBytes (be_bytes_each w l)
bytes_each w [] = tt
bytes_each w (n ∷ ns) = bytes_append (be_bytes w n) (be_bytes_each w ns) (bytes_be w n) (bytes_each w ns)

-- what is given of element i written, and then of those after it, is all from element i on
module _ {A : Type 0} (f : A → List ℕ) (l : List A) (x : A) (i : ℕ) where
  pub joined_over : i < length l → (d : List ℕ) (at : ℕ)
      → over (over d at (f (get_or l i x))) (at + length (f (get_or l i x))) (joined_by f (drop (suc i) l)) ≡ over d at (joined_by f (drop i l))
  joined_over h d at = over_split d at (f (get_or l i x)) (joined_by f (drop (suc i) l)) (joined_by f (drop i l)) (joined_next f l x i h)

  -- past the last there is nothing to write
  pub joined_done : length l ≤ i → (d : List ℕ) (at : ℕ) → over d at (joined_by f (drop i l)) ≡ d
  unfolding over
  joined_done h d at = ap (over d at) (joined_none f l x i h)

pub each_over : (w : ℕ) (l : List ℕ) (i : ℕ) → i < length l → (d : List ℕ) (at : ℕ)
    → over (over d at (be_bytes w (get_or l i 0))) (at + w) (be_bytes_each w (drop (suc i) l)) ≡ over d at (be_bytes_each w (drop i l))
each_over w l i h d at =
    ap (λ (n : ℕ). over (over d at (be_bytes w (get_or l i 0))) (at + n) (be_bytes_each w (drop (suc i) l))) (sym (length_be_bytes w (get_or l i 0)))
    ∙ joined_over (be_bytes w) l 0 i h d at
