-- Lists of two parts, and a list cut or filled to a length: what a part of it is, and writing where it ends.
-- Assumes nothing.
use Prim.Native.Nat.{ℕ, zero, suc, ◌+◌, ◌-◌, ◌<◌, ◌≤◌}
use mathlib.Core.Path.{◌≡◌, refl, sym, ap, ap₂, ◌∙◌}
use mathlib.Core.List.{List, [], ◌∷◌, ◌++◌, append_assoc, append-nil}
use mathlib.Core.Logic.{⊎_elim}
use native.Mathlib.Omega.{arith}
use native.Mathlib.Nat.{zero-add, suc-add}
use lib.ListN.{length, take, drop, set, length-set, length-drop, drop_of_length-le}
use lib.Seq.{take-nil, set-append_left}
use Rattle.octets.proofs.Lists.{take_both, drop_both}
use Rattle.octets.specs.Over.{over}
use Rattle.octets.proofs.Logic.{le_or_lt}
use Rattle.octets.proofs.Over.{over_head, over_out}
use Rattle.eif.specs.Layout.{checksum_at, checksum_end}
use Rattle.arriving.specs.State.{padded, checked_after}

-- ---- of two parts

parts_both : (m n : ℕ) (x y : List ℕ) → m ≤ n
    → take m (x ++ y) ++ drop n (x ++ y) ≡ (take m x ++ drop n x) ++ (take (m - length x) y ++ drop (n - length x) y)
parts_both m n x y l =
    ap₂ (λ (a b : List ℕ). a ++ b) (take_both m x y) (drop_both n x y)
    ∙ ⊎_elim
    (λ h.
    let z : m - length x ≡ 0 = omega arith in
    rw z (simp (append-nil, append_assoc)))
    (λ h.
    let e : drop n x ≡ [] = drop_of_length-le x {i = n} (omega arith) in
    rw e (simp (append-nil, append_assoc)))
    (le_or_lt m (length x))

-- the bytes that the checksum is over
pub checked_both : (x y : List ℕ) → checked_after 0 (x ++ y) ≡ checked_after 0 x ++ checked_after (length x) y
checked_both x y = parts_both checksum_at checksum_end x y (omega arith)

-- ---- cut or filled

pub length_padded : (n : ℕ) (l : List ℕ) → length (padded n l) ≡ n
unfolding padded
length_padded zero l = refl
length_padded (suc n) [] = ap suc (length_padded n [])
length_padded (suc n) (b ∷ l) = ap suc (length_padded n l)

-- what comes after the first n does not count
pub padded_more : (n : ℕ) (s t : List ℕ) → n ≤ length s → padded n (s ++ t) ≡ padded n s
unfolding padded
padded_more zero s t h = refl
padded_more (suc n) [] t h = absurd (omega arith)
padded_more (suc n) (b ∷ s) t h = ap (λ (l : List ℕ). b ∷ l) (padded_more n s t (omega arith))

-- of a list that is long enough they are its first n
pub padded_first : (n : ℕ) (s : List ℕ) → n ≤ length s → padded n s ≡ take n s
unfolding padded
padded_first zero s h = refl
padded_first (suc n) [] h = absurd (omega arith)
padded_first (suc n) (b ∷ s) h = ap (λ (l : List ℕ). b ∷ l) (padded_first n s (omega arith))

-- ---- writing where it ends

over_zeros : (n : ℕ) (t : List ℕ) → over (padded n []) 0 t ≡ padded n t
unfolding over padded
over_zeros zero t = over_out [] 0 t (omega arith)
over_zeros (suc n) [] = refl
over_zeros (suc n) (b ∷ t) = over_head b (padded n []) 0 t ∙ ap (λ (l : List ℕ). b ∷ l) (over_zeros n t)

pub over_padded : (n : ℕ) (s t : List ℕ) → over (padded n s) (length s) t ≡ padded n (s ++ t)
unfolding padded
over_padded n [] t = over_zeros n t
over_padded zero (b ∷ s) t = over_out [] _ t (omega arith)
over_padded (suc n) (b ∷ s) t = over_head b (padded n s) (length s) t ∙ ap (λ (l : List ℕ). b ∷ l) (over_padded n s t)

-- the same for the part from a position on
pub over_from : (n o : ℕ) (s t : List ℕ) → over (padded n (drop o s)) (length s - o) (drop (o - length s) t) ≡ padded n (drop o (s ++ t))
over_from n o s t =
    ap (λ (k : ℕ). over (padded n (drop o s)) k (drop (o - length s) t)) (sym (length-drop o s))
    ∙ over_padded n (drop o s) (drop (o - length s) t)
    ∙ ap (padded n) (sym (drop_both o s t))

-- behind another list, and before one that it must not reach
pub over_behind : (p l : List ℕ) (k : ℕ) (y : List ℕ) → over (p ++ l) (length p + k) y ≡ p ++ over l k y
over_behind [] l k y = ap (λ (n : ℕ). over l n y) (zero-add k)
over_behind (b ∷ p) l k y =
    ap (λ (n : ℕ). over (b ∷ (p ++ l)) n y) (suc-add (length p) k)
    ∙ over_head b (p ++ l) (length p + k) y ∙ ap (λ (x : List ℕ). b ∷ x) (over_behind p l k y)

pub over_within : (x r : List ℕ) (k : ℕ) (y : List ℕ) → over (x ++ r) k (take (length x - k) y) ≡ over x k y ++ r
unfolding over
over_within x r k [] = rw (take-nil (length x - k)) refl
over_within x r k (b ∷ y) =
    ⊎_elim
    (λ h.
    let z : length x - k ≡ 0 = omega arith in
    rw z (ap (λ (l : List ℕ). l ++ r) (sym (over_out x k (b ∷ y) h))))
    (λ (h : k < length x).
    let n : length x - k ≡ suc (length (set x k b) - (k + 1)) = rw (length-set x k b) (omega arith) in
    rw n (ap (λ (l : List ℕ). over l (k + 1) (take (length (set x k b) - (k + 1)) y)) (set-append_left x r k b h) ∙ over_within (set x k b) r (k + 1) y))
    (le_or_lt (length x) k)
