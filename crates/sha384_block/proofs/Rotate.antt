-- Rotations of a word: of an exclusive or, and one after another.
use Rattle.std.proofs.Common.{◌≡◌, ℕ, ◌+◌, ◌*◌, ◌/◌, ◌%◌, ◌^◌, ◌<◌, sym, ap, ◌∙◌, subst, ap₂, add-zero, add_assoc, mod-lt, mul_assoc, mul_comm, add-mul, add_comm, pow_pos, pow-add, shr-shr, shr_lt}
use lib.Bits.{bit_or, bit_xor, xor_shr, xor_mod, xor_block, xor_lt, xor_comm, or_shifted_r}
use lib.Arith.{digits_lt}
use lib.Pow.{shl-shr, mod-pow-add, split, low, high}
use Rattle.crc32.proofs.Xor.{xor_assoc}
use Rattle.sha384_block.specs.Fips.{rotr, shr}

-- a word of n + k bits, its lowest n taken to the top
abbrev pub turned : ℕ → ℕ → ℕ → ℕ
turned n k x = (x % 2 ^ n) * 2 ^ k + x / 2 ^ n

none_left : (x k : ℕ) → x * 2 ^ k % 2 ^ k ≡ 0
none_left x k = ap (λ (y : ℕ). y % 2 ^ k) (sym (add-zero (x * 2 ^ k))) ∙ low x k (pow_pos k)

shl_mod : (n k x : ℕ) → x * 2 ^ k % 2 ^ (n + k) ≡ (x % 2 ^ n) * 2 ^ k
shl_mod n k x =
    mod-pow-add (x * 2 ^ k) n k
    ∙ ap₂ (λ (p q : ℕ). (p % 2 ^ n) * 2 ^ k + q) (shl-shr x k) (none_left x k)
    ∙ add-zero ((x % 2 ^ n) * 2 ^ k)

module _ (n k : ℕ) where
  high_lt : (x : ℕ) → x < 2 ^ (n + k) → x / 2 ^ n < 2 ^ k
  high_lt x h = shr_lt k n (subst (λ (e : ℕ). x < 2 ^ e) (add_comm n k) h)

  pub is_turned : (x : ℕ) → x < 2 ^ (n + k) → bit_or (x / 2 ^ n) (x * 2 ^ k % 2 ^ (n + k)) ≡ turned n k x
  is_turned x h = ap (bit_or (x / 2 ^ n)) (shl_mod n k x) ∙ or_shifted_r (x % 2 ^ n) k (x / 2 ^ n) (high_lt x h)

  pub turned_xor : (a b : ℕ) → a < 2 ^ (n + k) → b < 2 ^ (n + k) → turned n k (bit_xor a b) ≡ bit_xor (turned n k a) (turned n k b)
  turned_xor a b h g =
      ap₂ (λ (p q : ℕ). p * 2 ^ k + q) (xor_mod a b n) (xor_shr a b n)
      ∙ sym (xor_block k (a % 2 ^ n) (b % 2 ^ n) (a / 2 ^ n) (b / 2 ^ n) (high_lt a h) (high_lt b g))

-- one after the other
module _ (m k l h : ℕ) where
  in_parts_holds : l * 2 ^ (k + m) + h ≡ (l * 2 ^ k + h / 2 ^ m) * 2 ^ m + h % 2 ^ m
  in_parts_holds =
      ap₂ (λ (p q : ℕ). p + q) (ap (λ (e : ℕ). l * e) (pow-add 2 k m) ∙ sym (mul_assoc l (2 ^ k) (2 ^ m))) (sym (split h m))
      ∙ sym (add_assoc (l * 2 ^ k * 2 ^ m) (h / 2 ^ m * 2 ^ m) (h % 2 ^ m))
      ∙ ap (λ (p : ℕ). p + h % 2 ^ m) (sym (add-mul (l * 2 ^ k) (h / 2 ^ m) (2 ^ m)))

  top : (l * 2 ^ (k + m) + h) / 2 ^ m ≡ l * 2 ^ k + h / 2 ^ m
  top = ap (λ (p : ℕ). p / 2 ^ m) in_parts_holds ∙ high (l * 2 ^ k + h / 2 ^ m) m (mod-lt h (pow_pos m))

  bottom : (l * 2 ^ (k + m) + h) % 2 ^ m ≡ h % 2 ^ m
  bottom = ap (λ (p : ℕ). p % 2 ^ m) in_parts_holds ∙ low (l * 2 ^ k + h / 2 ^ m) m (mod-lt h (pow_pos m))

pub turned_turned : (m n k x : ℕ) → turned m (k + n) (turned n (k + m) x) ≡ turned (m + n) k x
turned_turned m n k x =
    let l : ℕ = x % 2 ^ n in
    let h : ℕ = x / 2 ^ n in
    ap₂ (λ (p q : ℕ). p * 2 ^ (k + n) + q) (bottom m k l h) (top m k l h)
    ∙ sym (add_assoc (h % 2 ^ m * 2 ^ (k + n)) (l * 2 ^ k) (h / 2 ^ m))
    ∙ ap (λ (p : ℕ). p + l * 2 ^ k + h / 2 ^ m)
    (ap (λ (e : ℕ). h % 2 ^ m * e) (pow-add 2 k n ∙ mul_comm (2 ^ k) (2 ^ n)) ∙ sym (mul_assoc (h % 2 ^ m) (2 ^ n) (2 ^ k)))
    ∙ ap (λ (p : ℕ). p + h / 2 ^ m) (sym (add-mul (h % 2 ^ m * 2 ^ n) l (2 ^ k)))
    ∙ ap₂ (λ (p q : ℕ). p * 2 ^ k + q) (sym (mod-pow-add x m n)) (shr-shr x n m ∙ ap (λ (e : ℕ). x / 2 ^ e) (add_comm n m))

turned_lt : (n k x : ℕ) → x < 2 ^ (n + k) → turned n k x < 2 ^ (n + k)
turned_lt n k x h = subst (λ (e : ℕ). turned n k x < e) (sym (pow-add 2 n k)) (digits_lt (mod-lt x (pow_pos n)) (high_lt n k x h))

other_way : (a b c : ℕ) → bit_xor (bit_xor a b) c ≡ bit_xor (bit_xor c b) a
other_way a b c = xor_comm (bit_xor a b) c ∙ ap (bit_xor c) (xor_comm a b) ∙ sym (xor_assoc c b a)

pub big_sigma0_nested : (x : ℕ) → x < 2 ^ 64
    → rotr 28 (bit_xor (rotr 6 (bit_xor (rotr 5 x) x)) x) ≡ bit_xor (bit_xor (rotr 28 x) (rotr 34 x)) (rotr 39 x)
big_sigma0_nested x h =
    let p : ℕ = bit_xor (turned 5 59 x) x in
    let small : p < 2 ^ 64 = xor_lt 64 (turned 5 59 x) x (turned_lt 5 59 x h) h in
    let r : ℕ = bit_xor (turned 11 53 x) (turned 6 58 x) in
    let r_small : r < 2 ^ 64 = xor_lt 64 (turned 11 53 x) (turned 6 58 x) (turned_lt 11 53 x h) (turned_lt 6 58 x h) in
    let inner : rotr 6 (bit_xor (rotr 5 x) x) ≡ r =
    ap (λ (y : ℕ). rotr 6 (bit_xor y x)) (is_turned 5 59 x h)
    ∙ is_turned 6 58 p small
    ∙ turned_xor 6 58 (turned 5 59 x) x (turned_lt 5 59 x h) h
    ∙ ap (λ (y : ℕ). bit_xor y (turned 6 58 x)) (turned_turned 6 5 53 x) in
    ap (λ (y : ℕ). rotr 28 (bit_xor y x)) inner
    ∙ is_turned 28 36 (bit_xor r x) (xor_lt 64 r x r_small h)
    ∙ turned_xor 28 36 r x r_small h
    ∙ ap (λ (y : ℕ). bit_xor y (turned 28 36 x)) (turned_xor 28 36 (turned 11 53 x) (turned 6 58 x) (turned_lt 11 53 x h) (turned_lt 6 58 x h))
    ∙ ap₂ (λ (y z : ℕ). bit_xor (bit_xor y z) (turned 28 36 x)) (turned_turned 28 11 25 x) (turned_turned 28 6 30 x)
    ∙ other_way (turned 39 25 x) (turned 34 30 x) (turned 28 36 x)
    ∙ sym (ap₂ (λ (y z : ℕ). bit_xor y z) (ap₂ (λ (y z : ℕ). bit_xor y z) (is_turned 28 36 x h) (is_turned 34 30 x h)) (is_turned 39 25 x h))

pub big_sigma1_nested : (x : ℕ) → x < 2 ^ 64
    → rotr 14 (bit_xor (rotr 4 (bit_xor (rotr 23 x) x)) x) ≡ bit_xor (bit_xor (rotr 14 x) (rotr 18 x)) (rotr 41 x)
big_sigma1_nested x h =
    let p : ℕ = bit_xor (turned 23 41 x) x in
    let small : p < 2 ^ 64 = xor_lt 64 (turned 23 41 x) x (turned_lt 23 41 x h) h in
    let r : ℕ = bit_xor (turned 27 37 x) (turned 4 60 x) in
    let r_small : r < 2 ^ 64 = xor_lt 64 (turned 27 37 x) (turned 4 60 x) (turned_lt 27 37 x h) (turned_lt 4 60 x h) in
    let inner : rotr 4 (bit_xor (rotr 23 x) x) ≡ r =
    ap (λ (y : ℕ). rotr 4 (bit_xor y x)) (is_turned 23 41 x h)
    ∙ is_turned 4 60 p small
    ∙ turned_xor 4 60 (turned 23 41 x) x (turned_lt 23 41 x h) h
    ∙ ap (λ (y : ℕ). bit_xor y (turned 4 60 x)) (turned_turned 4 23 37 x) in
    ap (λ (y : ℕ). rotr 14 (bit_xor y x)) inner
    ∙ is_turned 14 50 (bit_xor r x) (xor_lt 64 r x r_small h)
    ∙ turned_xor 14 50 r x r_small h
    ∙ ap (λ (y : ℕ). bit_xor y (turned 14 50 x)) (turned_xor 14 50 (turned 27 37 x) (turned 4 60 x) (turned_lt 27 37 x h) (turned_lt 4 60 x h))
    ∙ ap₂ (λ (y z : ℕ). bit_xor (bit_xor y z) (turned 14 50 x)) (turned_turned 14 27 23 x) (turned_turned 14 4 46 x)
    ∙ other_way (turned 41 23 x) (turned 18 46 x) (turned 14 50 x)
    ∙ sym (ap₂ (λ (y z : ℕ). bit_xor y z) (ap₂ (λ (y z : ℕ). bit_xor y z) (is_turned 14 50 x h) (is_turned 18 46 x h)) (is_turned 41 23 x h))

pub small_sigma0_nested : (x : ℕ) → x < 2 ^ 64 → bit_xor (rotr 1 (bit_xor (rotr 7 x) x)) (shr 7 x) ≡ bit_xor (bit_xor (rotr 1 x) (rotr 8 x)) (shr 7 x)
small_sigma0_nested x h =
    let p : ℕ = bit_xor (turned 7 57 x) x in
    ap (λ (y : ℕ). bit_xor y (shr 7 x))
    (ap (λ (y : ℕ). rotr 1 (bit_xor y x)) (is_turned 7 57 x h)
    ∙ is_turned 1 63 p (xor_lt 64 (turned 7 57 x) x (turned_lt 7 57 x h) h)
    ∙ turned_xor 1 63 (turned 7 57 x) x (turned_lt 7 57 x h) h
    ∙ ap (λ (y : ℕ). bit_xor y (turned 1 63 x)) (turned_turned 1 7 56 x)
    ∙ xor_comm (turned 8 56 x) (turned 1 63 x)
    ∙ sym (ap₂ (λ (y z : ℕ). bit_xor y z) (is_turned 1 63 x h) (is_turned 8 56 x h)))

pub small_sigma1_nested : (x : ℕ) → x < 2 ^ 64 → bit_xor (rotr 19 (bit_xor (rotr 42 x) x)) (shr 6 x) ≡ bit_xor (bit_xor (rotr 19 x) (rotr 61 x)) (shr 6 x)
small_sigma1_nested x h =
    let p : ℕ = bit_xor (turned 42 22 x) x in
    ap (λ (y : ℕ). bit_xor y (shr 6 x))
    (ap (λ (y : ℕ). rotr 19 (bit_xor y x)) (is_turned 42 22 x h)
    ∙ is_turned 19 45 p (xor_lt 64 (turned 42 22 x) x (turned_lt 42 22 x h) h)
    ∙ turned_xor 19 45 (turned 42 22 x) x (turned_lt 42 22 x h) h
    ∙ ap (λ (y : ℕ). bit_xor y (turned 19 45 x)) (turned_turned 19 42 3 x)
    ∙ xor_comm (turned 61 3 x) (turned 19 45 x)
    ∙ sym (ap₂ (λ (y z : ℕ). bit_xor y z) (is_turned 19 45 x h) (is_turned 61 3 x h)))
