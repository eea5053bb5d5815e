-- The window of 300 bytes as a number: at the start, and read eight bytes at a time.
-- Assumes nothing.
use Prim.Native.Nat.{ℕ, zero, suc, ◌+◌, ◌-◌, ◌*◌, ◌/◌, ◌%◌, ◌^◌, ◌<◌, ◌≤◌}
use mathlib.Core.Path.{◌≡◌, refl, sym, ap, ◌∙◌}
use mathlib.Core.List.{List, [], ◌∷◌}
use native.Mathlib.Omega.{arith}
use native.Mathlib.Nat.{zero-add}
use lib.Dec.{lit≤}
use lib.Pow.{shr-shr}
use lib.ListN.{get_or, take, drop, replicate}
use lib.Bits.{bit_xor, xor_comm, xor_shifted}
use Rattle.crc32_lemmas.specs.Sizes.{emptied_size, cleared_size, buffer_rest}
use Rattle.octets.specs.Lists.{All}
use Rattle.octets.specs.Bytes.{le_value}
use Rattle.crc32_lemmas.specs.Fold.{down, up, mix, num, num_from, window, sparse, window_size}
use Rattle.crc32_lemmas.proofs.Sparse.{mix_down, mix_zero}
use Rattle.crc32_lemmas.proofs.Joined.{down_zero, num_ext, num_zero, num_past}
use Rattle.crc32_lemmas.proofs.FoldWords.{mix_small, noughts}

-- n bytes
value_num : (n : ℕ) (v : List ℕ) → ((k : ℕ) → get_or v k 0 < 2 ^ 8) → le_value (take n v) ≡ num 8 n (λ (k : ℕ). get_or v k 0)
unfolding num up
value_num zero v h = refl
value_num (suc n) [] h = sym (num_zero 8 (suc n) (λ (k : ℕ). get_or [] k 0) (λ k l. refl))
value_num (suc n) (x ∷ v) h =
    let y : ℕ = num 8 n (λ (k : ℕ). get_or v k 0) in
    let e : x + 256 * y ≡ y * 2 ^ 8 + x = omega arith in
    ap (λ (z : ℕ). x + 256 * z) (value_num n v (λ k. h (suc k))) ∙ e ∙ sym (xor_shifted y 8 x (h 0)) ∙ xor_comm (y * 2 ^ 8) x

window_value : (v : List ℕ) → ((k : ℕ) → get_or v k 0 < 2 ^ 8) → window v 0 ≡ le_value (take window_size v)
unfolding num_from
window_value v h =
    num_ext 8 window_size (λ (k : ℕ). get_or v (0 + k) 0) (λ (k : ℕ). get_or v k 0) (λ k m. ap (λ (i : ℕ). get_or v i 0) (zero-add k)) ∙ sym (value_num window_size v h)

-- ---- nothing after the window
num_cut : (n m : ℕ) (f : ℕ → ℕ) → ((k : ℕ) → n ≤ k → k < n + m → f k ≡ 0) → num 8 (n + m) f ≡ num 8 n f
unfolding num
num_cut zero m f z = ap (λ (k : ℕ). num 8 k f) (zero-add m) ∙ num_zero 8 m f (λ k l. z k (omega arith) (omega arith))
num_cut (suc n) m f z =
    let e : suc n + m ≡ suc (n + m) = omega arith in
    ap (λ (k : ℕ). num 8 k f) e
    ∙ ap (λ (y : ℕ). bit_xor (f 0) (up 8 y)) (num_cut n m (λ (k : ℕ). f (suc k)) (λ k a b. z (suc k) (omega arith) (omega arith)))

pub cleared : (v₀ v : List ℕ) → ((k : ℕ) → get_or v k 0 < 2 ^ 8) → ((k : ℕ) → k < window_size → get_or v k 0 ≡ get_or v₀ k 0)
    → ((k : ℕ) → window_size ≤ k → k < cleared_size → get_or v k 0 ≡ 0) → le_value (take cleared_size v) ≡ window v₀ 0
unfolding num_from
cleared v₀ v h p z =
    value_num cleared_size v h ∙ num_cut window_size (cleared_size - window_size) (λ (k : ℕ). get_or v k 0) z
    ∙ num_ext 8 window_size (λ (k : ℕ). get_or v k 0) (λ (k : ℕ). get_or v₀ (0 + k) 0) (λ k m. p k m ∙ ap (λ (i : ℕ). get_or v₀ i 0) (sym (zero-add k)))

pub window_end : (v : List ℕ) → ((k : ℕ) → get_or v k 0 < 2 ^ 8) → down (8 * window_size) (window v 0) ≡ 0
unfolding num_from
window_end v h = num_past 8 window_size window_size (λ (k : ℕ). get_or v (0 + k) 0) (λ k. h (0 + k)) (lit≤ tt)

pub mix_end : (x : ℕ) → down (8 * window_size) x ≡ 0 → down (8 * emptied_size) (mix sparse 8 x) ≡ 0
unfolding down
mix_end x e =
    sym (mix_down sparse 8 (8 * emptied_size) x) ∙ ap (mix sparse 8) (sym (shr-shr x (8 * window_size) (8 * (emptied_size - window_size))) ∙ ap (λ (y : ℕ). y / 2 ^ (8 * (emptied_size - window_size))) e) ∙ mix_zero sparse 8

-- ---- eight bytes
drop_value : (i : ℕ) (v : List ℕ) → ((k : ℕ) → get_or v k 0 < 256) → le_value (drop i v) ≡ down (8 * i) (le_value v)
unfolding down
drop_value zero v h = omega arith
drop_value (suc i) [] h = sym (down_zero (8 * suc i))
drop_value (suc i) (x ∷ v) h =
    let l = h 0 in
    let y : ℕ = le_value v in
    let e : 8 + 8 * i ≡ 8 * suc i = omega arith in
    let d : y ≡ (x + 256 * y) / 2 ^ 8 = omega arith in
    drop_value i v (λ k. h (suc k)) ∙ ap (λ (z : ℕ). z / 2 ^ (8 * i)) d ∙ shr-shr (x + 256 * y) 8 (8 * i) ∙ ap (λ (n : ℕ). (x + 256 * y) / 2 ^ n) e

pub eight : (v : List ℕ) → ((k : ℕ) → get_or v k 0 < 256) → (i r : ℕ) → r < 2 ^ 64 → le_value (drop i v) ≡ r + 2 ^ 64 * le_value (drop (i + 8) v)
    → r ≡ down (8 * i) (le_value v) % 2 ^ 64
eight v h i r l e =
    let t : ℕ = le_value (drop (i + 8) v) in
    let q : r ≡ (r + 2 ^ 64 * t) % 2 ^ 64 = omega arith in
    q ∙ ap (λ (y : ℕ). y % 2 ^ 64) (sym e ∙ drop_value i v h)

-- ---- the four bytes of a state
none : (n m : ℕ) → le_value (take n (noughts m)) ≡ 0
none zero m = refl
none (suc n) zero = refl
none (suc n) (suc m) = ap (λ (y : ℕ). 0 + 256 * y) (none n m)

pub bytes_back : (x a b c d : ℕ) → x < 2 ^ 32 → a ≡ x % 256 → b ≡ x / 2 ^ 8 % 256 → c ≡ x / 2 ^ 16 % 256 → d ≡ x / 2 ^ 24 % 256
    → a + 256 * (b + 256 * (c + 256 * (d + 0))) ≡ x
bytes_back x a b c d l p q r t =
    let u : x / 2 ^ 8 / 2 ^ 8 ≡ x / 2 ^ 16 = shr-shr x 8 8 in
    let v : x / 2 ^ 16 / 2 ^ 8 ≡ x / 2 ^ 24 = shr-shr x 16 8 in
    let w : x / 2 ^ 24 < 256 = omega arith in
    let e₃ : d ≡ x / 2 ^ 24 = omega arith in
    let e₂ : c + 256 * d ≡ x / 2 ^ 16 = omega arith in
    let e₁ : b + 256 * (c + 256 * d) ≡ x / 2 ^ 8 = omega arith in
    omega arith

pub start_window : (x a b c d : ℕ) → ((k : ℕ) → get_or (a ∷ b ∷ c ∷ d ∷ replicate buffer_rest 0) k 0 < 2 ^ 8) → x < 2 ^ 32
    → a + 256 * (b + 256 * (c + 256 * (d + 0))) ≡ x → mix sparse 8 (window (a ∷ b ∷ c ∷ d ∷ replicate buffer_rest 0) 0) ≡ x
unfolding All
start_window x a b c d h l e =
    ap (mix sparse 8)
    (window_value (a ∷ b ∷ c ∷ d ∷ noughts buffer_rest) h
    ∙ ap (λ (y : ℕ). a + 256 * (b + 256 * (c + 256 * (d + 256 * y)))) (none (window_size - 4) buffer_rest)
    ∙ e)
    ∙ mix_small 32 8 x l sparse (lit≤ tt, (lit≤ tt, (lit≤ tt, tt)))
