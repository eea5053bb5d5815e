-- No two byte strings with one checksum differ only within four neighbouring bytes: a step loses nothing, since the polynomial's lowest
-- term is there, and four bytes are no more than the remainder holds.
-- Assumes nothing.
use Prim.Native.Nat.{ℕ, zero, suc, ◌*◌, ◌/◌, ◌%◌, ◌^◌, ◌<◌, ◌≤◌}
use mathlib.Core.Path.{◌≡◌, refl, sym, ap, ap₂, ◌∙◌}
use mathlib.Core.List.{List, [], ◌∷◌, ◌++◌}
use native.Mathlib.Omega.{arith}
use native.Mathlib.Nat.{lt_of_lt_of_le}
use lib.ListN.{length}
use lib.Bits.{bit_xor, xor_lt, xor_self, xor_comm}
use Rattle.octets.specs.Bytes.{AreBytes, le_value, le_bytes}
use Rattle.octets.proofs.Value.{pow_le, le_value_lt, le_bytes_le_value}
use Rattle.crc32.specs.Crc.{poly, shift_bit, shift_bits, crc_from, crc32, ones32}
use Rattle.crc32.proofs.Xor.{bit_lt, too_big, xor_cancel, xor_zero_eq}
use Rattle.crc32.proofs.Linear.{shift_bits_linear, crc_from_append, crc_from_value}
use Rattle.crc32.proofs.Bounds.{shift_bit_lt, shift_bits_lt, crc_from_lt}

-- ---- a step loses nothing

-- the polynomial has the highest of 32 bits
even_of : (x q : ℕ) → q < 2 ^ 31 → q ≡ x * poly → x < 2 → x ≡ 0
even_of zero q h e g = refl
even_of (suc zero) q h e g = absurd (omega arith)
even_of (suc (suc x)) q h e g = absurd (too_big g)

step_kernel : (c : ℕ) → c < 2 ^ 32 → shift_bit c ≡ 0 → c ≡ 0
unfolding shift_bit
step_kernel c h e =
    let q : c / 2 ≡ c % 2 * poly = xor_zero_eq (c / 2) (c % 2 * poly) e in
    let z : c % 2 ≡ 0 = even_of (c % 2) (c / 2) (omega arith) q (bit_lt c) in
    let y : c / 2 ≡ 0 = q ∙ ap (λ (x : ℕ). x * poly) z in
    omega arith

steps_kernel : (k c : ℕ) → c < 2 ^ 32 → shift_bits k c ≡ 0 → c ≡ 0
unfolding shift_bits
steps_kernel zero c h e = e
steps_kernel (suc k) c h e = step_kernel c h (steps_kernel k (shift_bit c) (shift_bit_lt c h) e)

steps_injective : (k a b : ℕ) → a < 2 ^ 32 → b < 2 ^ 32 → shift_bits k a ≡ shift_bits k b → a ≡ b
steps_injective k a b ha hb e =
    xor_zero_eq a b (steps_kernel k (bit_xor a b) (xor_lt 32 a b ha hb) (shift_bits_linear k a b ∙ ap (λ (x : ℕ). bit_xor x (shift_bits k b)) e ∙ xor_self (shift_bits k b)))

-- equal bytes after two remainders leave equal remainders only if these were equal
crc_from_injective : (a b : ℕ) (s : List ℕ) → AreBytes s → a < 2 ^ 32 → b < 2 ^ 32 → crc_from a s ≡ crc_from b s → a ≡ b
unfolding crc_from
crc_from_injective a b [] w ha hb e = e
crc_from_injective a b (x ∷ xs) w ha hb e =
    let hx : x < 2 ^ 32 = let h = w.0 in omega arith in
    let r = crc_from_injective (shift_bits 8 (bit_xor a x)) (shift_bits 8 (bit_xor b x)) xs w.1 (shift_bits_lt 8 (bit_xor a x) (xor_lt 32 a x ha hx)) (shift_bits_lt 8 (bit_xor b x) (xor_lt 32 b x hb hx)) e in
    let t = steps_injective 8 (bit_xor a x) (bit_xor b x) (xor_lt 32 a x ha hx) (xor_lt 32 b x hb hx) r in
    xor_cancel x a b (xor_comm x a ∙ t ∙ xor_comm b x)

-- ---- at most four bytes

value_small : (s : List ℕ) → length s ≤ 4 → AreBytes s → le_value s < 2 ^ 32
value_small s h w = lt_of_lt_of_le (le_value_lt s w) (pow_le {i = length s} {j = 4} h)

value_same : (a b : List ℕ) → length a ≡ length b → AreBytes a → AreBytes b → le_value a ≡ le_value b → a ≡ b
value_same a b n wa wb e = sym (le_bytes_le_value a wa) ∙ ap₂ le_bytes n e ∙ le_bytes_le_value b wb

module _ (c : ℕ) (h : c < 2 ^ 32) (a b : List ℕ) (wa : AreBytes a) (wb : AreBytes b) (n : length a ≡ length b) (k : length a ≤ 4) where
  four_injective : crc_from c a ≡ crc_from c b → a ≡ b
  four_injective e =
      let m : length b ≤ 4 = omega arith in
      let u : shift_bits (8 * length b) (bit_xor c (le_value a)) ≡ shift_bits (8 * length b) (bit_xor c (le_value b)) =
      ap (λ (i : ℕ). shift_bits (8 * i) (bit_xor c (le_value a))) (sym n) ∙ sym (crc_from_value c a wa) ∙ e ∙ crc_from_value c b wb in
      let v = steps_injective (8 * length b) (bit_xor c (le_value a)) (bit_xor c (le_value b)) (xor_lt 32 c (le_value a) h (value_small a k wa)) (xor_lt 32 c (le_value b) h (value_small b m wb)) u in
      value_same a b n wa wb (xor_cancel c (le_value a) (le_value b) v)

-- ---- four neighbouring bytes of a byte string

module _ (p a b q : List ℕ) (wp : AreBytes p) (wa : AreBytes a) (wb : AreBytes b) (wq : AreBytes q) (n : length a ≡ length b) (k : length a ≤ 4) where
  from_any : (c : ℕ) → c < 2 ^ 32 → crc_from c (p ++ (a ++ q)) ≡ crc_from c (p ++ (b ++ q)) → a ≡ b
  from_any c h e =
      let d : ℕ = crc_from c p in
      let hd : d < 2 ^ 32 = crc_from_lt c p wp h in
      let s : crc_from (crc_from d a) q ≡ crc_from (crc_from d b) q =
      sym (crc_from_append c p (a ++ q) ∙ crc_from_append d a q) ∙ e ∙ crc_from_append c p (b ++ q) ∙ crc_from_append d b q in
      four_injective d hd a b wa wb n k (crc_from_injective (crc_from d a) (crc_from d b) q wq (crc_from_lt d a wa hd) (crc_from_lt d b wb hd) s)

  pub burst : crc32 (p ++ (a ++ q)) ≡ crc32 (p ++ (b ++ q)) → a ≡ b
  unfolding crc32
  burst e = from_any ones32 (omega arith) (xor_cancel ones32 (crc_from ones32 (p ++ (a ++ q))) (crc_from ones32 (p ++ (b ++ q))) e)
