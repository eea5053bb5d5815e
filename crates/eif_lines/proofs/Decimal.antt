-- Laws of a number in decimal: the fewest digits that hold a number are as many as it has, and a number of 64 bits has at most 20.
-- Assumes nothing.
use Prim.Native.Nat.{ℕ, zero, suc, ◌-◌, ◌/◌, ◌%◌, ◌^◌, ◌≤◌, ◌<◌}
use mathlib.Core.Path.{◌≡◌, refl, sym, ap, ◌∙◌}
use mathlib.Core.List.{[], ◌∷◌}
use mathlib.Core.Logic.{⊎_elim}
use native.Mathlib.Omega.{arith}
use native.Mathlib.Nat.{pow-succ', pow-le-pow_right}
use borrow.Author.Tests.{lt-ltb, le-ltb}
use lib.Dec.{ltb, lit<}
use lib.ListN.{length, length-append}
use Rattle.io.specs.Digits.{last_digits, hex_digit_ascii, IsDigitCount}
use Rattle.octets.proofs.Logic.{le_or_lt}
use Rattle.eif_lines.specs.Lines.{digits_by, digit_count, decimal_text, most_digits}

-- a power of ten is more than its exponent
pow_more : (j : ℕ) → j < 10 ^ j
pow_more zero = lit< tt
pow_more (suc j) = let e = pow-succ' 10 j in let i = pow_more j in omega arith

count_within : (more n k : ℕ) → k ≤ more → n < 10 ^ suc k → (0 < k → 10 ^ k ≤ n) → digits_by more (ltb n 10) n ≡ suc k
unfolding digits_by
count_within zero n k h under from = let e : 0 ≡ k = omega arith in ap suc e
count_within (suc more) n zero h under from = rw (lt-ltb n 10 under) refl
count_within (suc more) n (suc k) h under from =
    let p = pow-succ' 10 (suc k) in
    let q = pow-succ' 10 k in
    let some = pow_more k in
    let low = from (omega arith) in
    let ten : 10 ≤ n = omega arith in
    rw (le-ltb n 10 ten) (ap suc (count_within more (n / 10) k (omega arith) (omega arith) (λ z. omega arith)))

count_is : (n k : ℕ) → IsDigitCount 10 1 n k → digit_count n ≡ k
unfolding digit_count
count_is n zero f = absurd (omega arith)
count_is n (suc zero) f = count_within n n 0 (omega arith) f.1 (λ z. absurd (omega arith))
count_is n (suc (suc j)) f =
    let e : suc (suc j) - 1 ≡ suc j = omega arith in
    let low : 10 ^ suc j ≤ n = rw e at (f.2 (omega arith)) in
    let some = pow_more (suc j) in
    count_within n n (suc j) (omega arith) f.1 (λ z. low)

pub text_is : (n k : ℕ) → IsDigitCount 10 1 n k → last_digits 10 k n ≡ decimal_text n
unfolding decimal_text
text_is n k f = ap (λ (i : ℕ). last_digits 10 i n) (sym (count_is n k f))

length_digits : (k n : ℕ) → length (last_digits 10 k n) ≡ k
length_digits zero n = refl
length_digits (suc k) n =
    let e = length-append (last_digits 10 k (n / 10)) (hex_digit_ascii (n % 10) ∷ []) in
    let i = length_digits k (n / 10) in
    omega arith

pub text_size : (n k : ℕ) → IsDigitCount 10 1 n k → length (decimal_text n) ≡ k
text_size n k f = ap length (sym (text_is n k f)) ∙ length_digits k n

pub digits_fit : (n k : ℕ) → IsDigitCount 10 1 n k → n ≤ 18446744073709551615 → k ≤ most_digits
digits_fit n k f h =
    ⊎_elim
    (λ few. few)
    (λ more.
    let p : 10 ^ most_digits ≤ 10 ^ (k - 1) = pow-le-pow_right (lit< tt) {i = most_digits} {j = k - 1} (omega arith) in
    let q = f.2 (omega arith) in
    absurd (omega arith))
    (le_or_lt k most_digits)
