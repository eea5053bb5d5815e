-- Laws of writing over a part of a list: one store at a time, one piece at a time, and past the end.
-- Assumes nothing.
use Prim.Native.Nat.{ℕ, zero, suc, ◌+◌, ◌-◌, ◌≤◌, ◌<◌, min}
use mathlib.Core.Path.{◌≡◌, refl, sym, ap, ap₂, ◌∙◌}
use mathlib.Core.List.{List, [], ◌∷◌, ◌++◌}
use mathlib.Core.Logic.{⊎_elim}
use native.Mathlib.Omega.{arith}
use native.Mathlib.Nat.{add-zero, suc-add, zero-add}
use native.Mathlib.Numerals.{add-one}
use lib.ListN.{length, take, drop, get_or, set, replicate, length-set, length-take, length-drop, length-replicate, take-append-drop}
use lib.Seq.{set_out, take-nil, drop-cons, drop-drop, drop_at, take_at, length-take-le}
use Rattle.octets.specs.Over.{over}
use Rattle.octets.proofs.Logic.{le_or_lt}

pub length_over : (d : List ℕ) (at : ℕ) (bs : List ℕ) → length (over d at bs) ≡ length d
unfolding over
length_over d at [] = refl
length_over d at (b ∷ bs) = length_over (set d at b) (at + 1) bs ∙ length-set d at b

-- two pieces one after the other
pub over_append : (d : List ℕ) (at : ℕ) (x y : List ℕ) → over d at (x ++ y) ≡ over (over d at x) (at + length x) y
unfolding over
over_append d at [] y = ap (λ (n : ℕ). over d n y) (sym (add-zero at))
over_append d at (b ∷ bs) y =
    let e : at + 1 + length bs ≡ at + suc (length bs) = omega arith in
    over_append (set d at b) (at + 1) bs y ∙ ap (λ (n : ℕ). over (over (set d at b) (at + 1) bs) n y) e

pub over_head : (x : ℕ) (d : List ℕ) (at : ℕ) (bs : List ℕ) → over (x ∷ d) (suc at) bs ≡ x ∷ over d at bs
unfolding over
over_head x d at [] = refl
over_head x d at (b ∷ bs) = ap (λ (n : ℕ). over (x ∷ set d at b) n bs) (suc-add at 1) ∙ over_head x (set d at b) (at + 1) bs

pub over_split : (d : List ℕ) (at : ℕ) (x y l : List ℕ) → l ≡ x ++ y → over (over d at x) (at + length x) y ≡ over d at l
over_split d at x y l e = sym (over_append d at x y) ∙ ap (over d at) (sym e)

-- where all fits: the part before, the bytes, and the part after
pub over_parts : (d : List ℕ) (at : ℕ) (bs : List ℕ) → at + length bs ≤ length d → over d at bs ≡ take at d ++ (bs ++ drop (at + length bs) d)
unfolding over
over_parts d zero [] h = refl
over_parts [] zero (b ∷ bs) h = absurd (omega arith)
over_parts (x ∷ d) zero (b ∷ bs) h =
    over_head b d 0 bs ∙ ap (λ (l : List ℕ). b ∷ l) (over_parts d 0 bs (omega arith) ∙ ap (λ (n : ℕ). bs ++ drop n d) (zero-add (length bs)))
    ∙ ap (λ (n : ℕ). b ∷ (bs ++ drop n (x ∷ d))) (sym (zero-add (suc (length bs))))
over_parts [] (suc at) bs h = absurd (omega arith)
over_parts (x ∷ d) (suc at) bs h =
    over_head x d at bs ∙ ap (λ (l : List ℕ). x ∷ l) (over_parts d at bs (omega arith)) ∙ ap (λ (n : ℕ). x ∷ (take at d ++ (bs ++ drop n (x ∷ d)))) (sym (suc-add at (length bs)))

-- ---- past the end: nothing is written there, so a write may be cut to the room first

pub over_out : (d : List ℕ) (at : ℕ) (bs : List ℕ) → length d ≤ at → over d at bs ≡ d
unfolding over
over_out d at [] h = refl
over_out d at (b ∷ bs) h = ap (λ (l : List ℕ). over l (at + 1) bs) (set_out d at b h) ∙ over_out d (at + 1) bs (omega arith)

pub over_clip : (d : List ℕ) (at : ℕ) (bs : List ℕ) → over d at bs ≡ over d at (take (length d - at) bs)
unfolding over
over_clip d at [] = ap (over d at) (sym (take-nil (length d - at)))
over_clip d at (b ∷ bs) =
    ⊎_elim
    (λ h.
    let z : length d - at ≡ 0 = omega arith in
    over_out d at (b ∷ bs) h ∙ sym (rw z refl))
    (λ h.
    let n : length d - at ≡ suc (length d - (at + 1)) = omega arith in
    over_clip (set d at b) (at + 1) bs
    ∙ ap (λ (m : ℕ). over (set d at b) (at + 1) (take (m - (at + 1)) bs)) (length-set d at b)
    ∙ sym (rw n refl))
    (le_or_lt (length d) at)

-- where no byte is left, or no room, nothing changes
pub over_end : (d : List ℕ) (at : ℕ) (bs : List ℕ) → min (length bs) (length d - at) ≡ 0 → over d at bs ≡ d
unfolding over
over_end d at [] h = refl
over_end d at (b ∷ bs) h = over_out d at (b ∷ bs) (omega arith)

-- ---- a loop that stores one byte in each turn: what is left to write, after one more store

pub over_next : (d : List ℕ) (at k b : ℕ) (bs : List ℕ) → over (set d (at + k) b) (at + (k + 1)) bs ≡ over d (at + k) (b ∷ bs)
unfolding over
over_next d at k b bs = ap (λ (n : ℕ). over (set d (at + k) b) n bs) (let e : at + (k + 1) ≡ at + k + 1 = omega arith in e)

-- and where it stores the bytes of a list in order
pub over_step : (d s : List ℕ) (at k b : ℕ) → k < length s → b ≡ get_or s k 0 → over (set d (at + k) b) (at + (k + 1)) (drop (k + 1) s) ≡ over d (at + k) (drop k s)
over_step d s at k b h e =
    over_next d at k b (drop (k + 1) s) ∙ ap (λ (x : ℕ). over d (at + k) (x ∷ drop (k + 1) s)) e ∙ ap (over d (at + k)) (rw add-one (sym (drop-cons s k 0 h)))

-- ---- what was written stands there

pub over_here : (d : List ℕ) (at : ℕ) (bs : List ℕ) → at + length bs ≤ length d → (n : ℕ) → length bs ≡ n → take n (drop at (over d at bs)) ≡ bs
over_here d at bs h n e =
    ap (λ (l : List ℕ). take n (drop at l)) (over_parts d at bs h)
    ∙ ap (take n) (drop_at (take at d) (bs ++ drop (at + length bs) d) at (length-take-le at d (omega arith)))
    ∙ take_at bs (drop (at + length bs) d) n e

-- ---- at the start, and what stands there already

pub over_start : (d x : List ℕ) → length x ≤ length d → over d 0 x ≡ x ++ drop (length x) d
over_start d x h = over_parts d 0 x (rw zero-add h) ∙ ap (λ (n : ℕ). x ++ drop n d) (zero-add (length x))

-- a row of one value, from its k-th place on, and under what is written at its start
pub drop_replicate : (k n a : ℕ) → drop k (replicate n a) ≡ replicate (n - k) a
drop_replicate zero n a = let e : n ≡ n - 0 = omega arith in ap (λ (j : ℕ). replicate j a) e
drop_replicate (suc k) zero a = let e : 0 ≡ 0 - suc k = omega arith in ap (λ (j : ℕ). replicate j a) e
drop_replicate (suc k) (suc n) a = let e : n - k ≡ suc n - suc k = omega arith in drop_replicate k n a ∙ ap (λ (j : ℕ). replicate j a) e

pub over_row : (n a : ℕ) (x : List ℕ) → length x ≤ n → over (replicate n a) 0 x ≡ x ++ replicate (n - length x) a
over_row n a x h =
    let m = length-replicate n a in
    over_start (replicate n a) x (omega arith) ∙ ap (λ (l : List ℕ). x ++ l) (drop_replicate (length x) n a)

-- a list in three parts
pub in_three : (d : List ℕ) (at n : ℕ) → take at d ++ (take n (drop at d) ++ drop (at + n) d) ≡ d
in_three d at n =
    ap (λ (l : List ℕ). take at d ++ (take n (drop at d) ++ l)) (sym (drop-drop n at d))
    ∙ ap (λ (l : List ℕ). take at d ++ l) (take-append-drop n (drop at d))
    ∙ take-append-drop at d

-- writing what stands there changes nothing
pub over_own : (d : List ℕ) (at n : ℕ) → at + n ≤ length d → over d at (take n (drop at d)) ≡ d
over_own d at n h =
    let e : length (take n (drop at d)) ≡ n = simp (length-take, length-drop) (omega arith) in
    over_parts d at (take n (drop at d)) (omega arith)
    ∙ ap (λ (m : ℕ). take at d ++ (take n (drop at d) ++ drop (at + m) d)) e ∙ in_three d at n

-- a piece from `at` on, and the next from where it ends
pub over_joined : (d : List ℕ) (at : ℕ) (x y : List ℕ) {b c : List ℕ} {m : ℕ} → b ≡ over d at x → c ≡ over b m y → at + length x ≡ m → c ≡ over d at (x ++ y)
over_joined d at x y e f h =
    f ∙ ap₂ (λ (l : List ℕ) (n : ℕ). over l n y) e (sym h) ∙ sym (over_append d at x y)
