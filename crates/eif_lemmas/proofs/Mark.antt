-- The ramdisk mark of a section list: built place by place, each bit tells whether its section is a ramdisk, its ones are the
-- ramdisks, and its lowest one is the first.
-- Assumes nothing.
use Prim.Native.Nat.{ℕ, zero, suc, ◌+◌, ◌*◌, ◌/◌, ◌%◌, ◌^◌, ◌<◌, ◌≤◌}
use mathlib.Core.Path.{◌≡◌, refl, sym, ap, ap₂, ◌∙◌}
use mathlib.Core.Bool.{Bool, true, false}
use mathlib.Core.List.{List, [], ◌∷◌}
use native.Mathlib.Omega.{arith}
use native.Mathlib.Nat.{zero-add, div-one, div-div-eq-div-mul, pow-succ'}
use borrow.Author.Tests.{eq-eqb, ne_eqb, eqb-true}
use lib.Dec.{eqb}
use lib.ListN.{length, get_or, drop, replicate}
use lib.Seq.{drop-cons}
use lib.Count.{ones, ones_step, count_trailing_zeros, under}
use Rattle.eif.specs.Numbers.{ramdisk}
use Rattle.octets.specs.Logic.{choose}
use Rattle.eif.specs.Table.{filled}
use Rattle.eif.specs.Reading.{blank_section, mark_of, ramdisk_bit, ramdisk_count, first_ramdisk}
use Rattle.eif.specs.declared.Section.{Section}

-- ---- one place after the other, from the last

mark_blank : (n : ℕ) → 0 ≡ mark_of (replicate n blank_section)
unfolding mark_of
mark_blank zero = refl
mark_blank (suc n) = ap (λ (m : ℕ). 2 * m) (mark_blank n) ∙ sym (zero-add (2 * mark_of (replicate n blank_section)))

-- the places past those that are used have no mark
pub mark_unused : (f : ℕ → Section) (m n : ℕ) → 0 ≡ mark_of (drop n (filled f blank_section m n))
unfolding mark_of
mark_unused f zero zero = refl
mark_unused f zero (suc n) = refl
mark_unused f (suc m) zero = mark_blank (suc m)
mark_unused f (suc m) (suc n) = mark_unused (λ (k : ℕ). f (suc k)) m n

pub mark_one : (l : List Section) (j : ℕ) → suc j ≤ length l → (get_or l j blank_section).kind ≡ ramdisk → mark_of (drop j l) ≡ 1 + 2 * mark_of (drop (suc j) l)
unfolding mark_of
mark_one l j h e = rw (drop-cons l j blank_section h) (simp (eq-eqb _ _ e))

pub mark_other : (l : List Section) (j : ℕ) → suc j ≤ length l → ((get_or l j blank_section).kind ≡ ramdisk → ⊥) → mark_of (drop j l) ≡ 0 + 2 * mark_of (drop (suc j) l)
unfolding mark_of
mark_other l j h e = rw (drop-cons l j blank_section h) (simp (ne_eqb _ _ e))

-- ---- ones and trailing zeros

bit_lt : (b : Bool) → choose b 1 0 < 2
bit_lt true = omega arith
bit_lt false = omega arith

low : (b m : ℕ) → b < 2 → (b + 2 * m) % 2 ≡ b
low b m h = omega arith

rest : (b m : ℕ) → b < 2 → (b + 2 * m) / 2 ≡ m
rest b m h = omega arith

-- ---- each bit

nothing : (i : ℕ) → 0 / 2 ^ i % 2 ≡ 0
nothing zero = refl
nothing (suc i) = ap (λ (n : ℕ). 0 / n % 2) (pow-succ' 2 i) ∙ ap (λ (n : ℕ). n % 2) (sym (div-div-eq-div-mul 0 2 (2 ^ i))) ∙ nothing i

-- bit i of the mark, of any i: past the list there is no section, and the bit is 0
pub mark_bit : (l : List Section) (i : ℕ) → mark_of l / 2 ^ i % 2 ≡ ramdisk_bit (get_or l i blank_section)
unfolding mark_of
mark_bit [] i = nothing i
mark_bit (x ∷ xs) zero =
    ap (λ (n : ℕ). n % 2) (div-one (ramdisk_bit x + 2 * mark_of xs))
    ∙ low (ramdisk_bit x) (mark_of xs) (bit_lt (eqb x.kind ramdisk))
mark_bit (x ∷ xs) (suc i) =
    let n : ℕ = ramdisk_bit x + 2 * mark_of xs in
    ap (λ (k : ℕ). n / k % 2) (pow-succ' 2 i)
    ∙ ap (λ (k : ℕ). k % 2) (sym (div-div-eq-div-mul n 2 (2 ^ i)))
    ∙ ap (λ (k : ℕ). k / 2 ^ i % 2) (rest (ramdisk_bit x) (mark_of xs) (bit_lt (eqb x.kind ramdisk)))
    ∙ mark_bit xs i

bit_one : (x : Section) → (ramdisk_bit x ≡ 1 → x.kind ≡ ramdisk) × (x.kind ≡ ramdisk → ramdisk_bit x ≡ 1)
bit_one x = (λ e. eqb-true _ _ (one→ (eqb x.kind ramdisk) e), λ e. simp (eq-eqb _ _ e))
  where
    one→ : (b : Bool) → ◌≡◌ {A = ℕ} (choose b 1 0) 1 → b ≡ true
    one→ true e = refl
    one→ false e = absurd (omega arith)

-- bit i is one exactly when section i is a ramdisk
pub mark_one_exactly : (l : List Section) (i : ℕ) → (mark_of l / 2 ^ i % 2 ≡ 1 → (get_or l i blank_section).kind ≡ ramdisk) × ((get_or l i blank_section).kind ≡ ramdisk → mark_of l / 2 ^ i % 2 ≡ 1)
mark_one_exactly l i =
    (λ e. (bit_one (get_or l i blank_section)).0 (sym (mark_bit l i) ∙ e), λ e. mark_bit l i ∙ (bit_one (get_or l i blank_section)).1 e)

-- ---- all ones, and the lowest

pub ones_mark : (l : List Section) → ones (mark_of l) ≡ ramdisk_count l
unfolding mark_of ones
ones_mark [] = refl
ones_mark (x ∷ xs) =
    let h = bit_lt (eqb x.kind ramdisk) in
    ones_step (ramdisk_bit x + 2 * mark_of xs)
    ∙ ap₂ (λ (a b : ℕ). a + ones b) (low (ramdisk_bit x) (mark_of xs) h) (rest (ramdisk_bit x) (mark_of xs) h)
    ∙ ap (λ (n : ℕ). ramdisk_bit x + n) (ones_mark xs)

first_by : (b : Bool) (n : ℕ) → under (choose b 1 0) n ≡ choose b 0 (suc n)
first_by true n = refl
first_by false n = refl

pub trailing_mark : (l : List Section) → count_trailing_zeros (length l) (mark_of l) ≡ first_ramdisk l
unfolding mark_of count_trailing_zeros first_ramdisk
trailing_mark [] = refl
trailing_mark (x ∷ xs) =
    let h = bit_lt (eqb x.kind ramdisk) in
    ap₂ (λ (a b : ℕ). under a (count_trailing_zeros (length xs) b)) (low (ramdisk_bit x) (mark_of xs) h) (rest (ramdisk_bit x) (mark_of xs) h)
    ∙ ap (under (ramdisk_bit x)) (trailing_mark xs)
    ∙ first_by (eqb x.kind ramdisk) (first_ramdisk xs)
