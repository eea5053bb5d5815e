-- The padding as the code builds it: in a row of zeros, a byte at the start and two words further on.
-- Assumes nothing.
use Prim.Native.Nat.{ℕ, zero, suc, ◌+◌, ◌-◌, ◌*◌, ◌/◌, ◌%◌, ◌^◌, ◌<◌, ◌≤◌}
use mathlib.Core.Path.{◌≡◌, refl, sym, ap, ap₂, ◌∙◌}
use mathlib.Core.List.{List, ◌∷◌, ◌++◌, append_assoc}
use native.Mathlib.Omega.{arith}
use native.Mathlib.Numerals.{add-one}
use native.Mathlib.Nat.{zero-add, suc-add, zero-mul, mul_comm, div-div-eq-div-mul}
use lib.Pow.{pow-add}
use lib.ListN.{length, take, drop, set, replicate, length-append, length-replicate}
use lib.Seq.{take_at}
use Rattle.octets.specs.Bytes.{be_from, be_value, be_bytes}
use Rattle.octets.specs.Over.{over}
use Rattle.octets.proofs.Over.{over_append, over_parts}
use Rattle.octets.proofs.Value.{be_read, bytes_be, length_be_bytes, be_bytes_be_value}
use Rattle.sha384_block.specs.Fips.{block_size, bit_count_size, least_padding, most_padding, padding, zeros_for}

-- ---- a number's bytes: the high ones and the low ones, and no more than the low ones of a remainder

pub be_split : (a b n : ℕ) → be_bytes (a + b) n ≡ be_bytes a (n / 256 ^ b) ++ be_bytes b n
be_split zero b n = ap (λ (k : ℕ). be_bytes k n) (zero-add b)
be_split (suc a) b n =
    let p : n / 256 ^ (a + b) ≡ n / 256 ^ b / 256 ^ a = ap (λ (k : ℕ). n / k) (pow-add 256 a b ∙ mul_comm (256 ^ a) (256 ^ b)) ∙ sym (div-div-eq-div-mul n (256 ^ b) (256 ^ a)) in
    ap (λ (k : ℕ). be_bytes k n) (suc-add a b) ∙ ap₂ (λ (x : ℕ) (l : List ℕ). x % 256 ∷ l) p (be_split a b n)

pub be_low : (w n : ℕ) → be_bytes w (n % 256 ^ w) ≡ be_bytes w n
unfolding be_value
be_low w n =
    let v : be_from 0 (be_bytes w n) ≡ n % 256 ^ w = be_read 0 w n ∙ simp (zero-mul, zero-add) in
    ap₂ (λ (k x : ℕ). be_bytes k x) (sym (length_be_bytes w n)) (sym v) ∙ be_bytes_be_value (be_bytes w n) (bytes_be w n)

-- the length in bits as two words
pub two_words : (n : ℕ) → be_bytes 8 (n / 2 ^ 61) ++ be_bytes 8 (n * 2 ^ 3 % 2 ^ 64) ≡ be_bytes bit_count_size (8 * n)
two_words n =
    let h : n / 2 ^ 61 ≡ 8 * n / 256 ^ 8 = omega arith in
    let l : n * 2 ^ 3 % 2 ^ 64 ≡ 8 * n % 256 ^ 8 = omega arith in
    ap₂ (λ (x y : ℕ). be_bytes 8 x ++ be_bytes 8 y) h l ∙ ap (λ (x : List ℕ). be_bytes 8 (8 * n / 256 ^ 8) ++ x) (be_low 8 (8 * n)) ∙ sym (be_split 8 8 (8 * n))

-- ---- the padding

take_replicate : (n m : ℕ) → n ≤ m → take {A = ℕ} n (replicate m 0) ≡ replicate n 0
take_replicate zero m h = refl
take_replicate (suc n) zero h = absurd (omega arith)
take_replicate (suc n) (suc m) h = ap (λ (l : List ℕ). 0 ∷ l) (take_replicate n m (omega arith))

-- a byte, z zeros, and two strings of eight bytes
laid : (z : ℕ) (x y : List ℕ) → z < block_size → length x ≡ 8 → length y ≡ 8
    → take (z + least_padding) (over (over (set (replicate most_padding 0) 0 0x80) (z + 1) x) (z + 9) y) ≡ 0x80 ∷ (replicate z 0 ++ (x ++ y))
laid z x y h p q =
    let d : List ℕ = 0x80 ∷ replicate (most_padding - 1) 0 in
    let n : length (x ++ y) ≡ bit_count_size = length-append x y ∙ ap₂ (λ (i j : ℕ). i + j) p q in
    let k : z + 1 + length x ≡ z + 9 = omega arith in
    let j : over (over d (z + 1) x) (z + 9) y ≡ over d (z + 1) (x ++ y) =
    ap (λ (i : ℕ). over (over d (z + 1) x) i y) (sym k) ∙ sym (over_append d (z + 1) x y) in
    let r : length d ≡ most_padding = refl in
    let f : take (z + 1) d ≡ 0x80 ∷ replicate z 0 = rw add-one (ap (λ (l : List ℕ). 0x80 ∷ l) (take_replicate z (most_padding - 1) (omega arith))) in
    let rest = drop (z + 1 + length (x ++ y)) d in
    let front = (0x80 ∷ replicate z 0) ++ (x ++ y) in
    let m : length front ≡ z + least_padding = length-append (0x80 ∷ replicate z 0) (x ++ y) ∙ omega (arith, length-replicate {A = ℕ} z 0) in
    ap (take (z + least_padding)) (j ∙ over_parts d (z + 1) (x ++ y) (omega arith) ∙ ap (λ (l : List ℕ). l ++ ((x ++ y) ++ rest)) f ∙ sym (append_assoc (0x80 ∷ replicate z 0) (x ++ y) rest))
    ∙ take_at front rest (z + least_padding) m

pub padding_is : (n z : ℕ) → z ≡ zeros_for n
    → take (z + least_padding) (over (over (set (replicate most_padding 0) 0 0x80) (z + 1) (be_bytes 8 (n / 2 ^ 61))) (z + 9) (be_bytes 8 (n * 2 ^ 3 % 2 ^ 64))) ≡ padding n
unfolding padding
padding_is n z e =
    laid z (be_bytes 8 (n / 2 ^ 61)) (be_bytes 8 (n * 2 ^ 3 % 2 ^ 64)) (omega arith) (length_be_bytes 8 (n / 2 ^ 61)) (length_be_bytes 8 (n * 2 ^ 3 % 2 ^ 64))
    ∙ ap₂ (λ (k : ℕ) (l : List ℕ). 0x80 ∷ (replicate k 0 ++ l)) e (two_words n)
