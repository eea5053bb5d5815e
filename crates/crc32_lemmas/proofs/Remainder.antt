-- The remainder of what is left, some bytes further: as it is, and with a word taken away.
-- Assumes nothing.
use Prim.Native.Nat.{ℕ, suc, ◌+◌, ◌-◌, ◌*◌, ◌/◌, ◌%◌, ◌^◌, ◌<◌, ◌≤◌}
use mathlib.Core.Path.{◌≡◌, sym, ap, ap₂, ◌∙◌}
use mathlib.Core.List.{List, [], ◌∷◌}
use native.Mathlib.Omega.{arith}
use native.Mathlib.Nat.{add_comm, mul_comm, mod-lt, mod-eq_of_lt, div-eq_of_lt}
use native.Mathlib.Numerals.{add-one}
use lib.Pow.{pow_pos}
use lib.ListN.{length, get_or, drop}
use lib.Seq.{drop-cons, drop-length}
use lib.Bits.{bit_xor, xor_shr, xor_mod, xor_comm, xor_zero_r, xor_lt, xor_shifted}
use Rattle.octets.specs.Bytes.{AreBytes, le_value}
use Rattle.crc32.specs.Crc.{shift_bits, crc_from}
use Rattle.crc32_lemmas.specs.Fold.{down, up, spread, remainder_from}
use Rattle.crc32.proofs.Xor.{xor_assoc}
use Rattle.crc32.proofs.Linear.{shift_bits_linear, shift_bits_high, shift_bits_add, shift_bits_split, crc_from_value}
use Rattle.crc32_lemmas.proofs.Sparse.{Spreads, spread_steps}

pub xor_last : (a b c : ℕ) → bit_xor (bit_xor a b) c ≡ bit_xor (bit_xor a c) b
xor_last a b c = xor_assoc a b c ∙ ap (bit_xor a) (xor_comm b c) ∙ sym (xor_assoc a c b)

-- what stands above k bits comes down, also where something is added
steps_under : (k a b : ℕ) → shift_bits k (bit_xor a (b * 2 ^ k)) ≡ bit_xor (shift_bits k a) b
steps_under k a b = shift_bits_linear k a (b * 2 ^ k) ∙ ap (bit_xor (shift_bits k a)) (shift_bits_high k b)

-- b bytes at i are the number w
abbrev pub At : List ℕ → ℕ → ℕ → ℕ → Type 0
At s i b w = (i + b ≤ length s) × (w < 2 ^ (8 * b)) × (le_value (drop i s) ≡ w + 2 ^ (8 * b) * le_value (drop (i + b) s))

pub remainder_next : (s : List ℕ) (i b w x : ℕ) → At s i b w → remainder_from s i x ≡ remainder_from s (i + b) (shift_bits (8 * b) (bit_xor x w))
unfolding remainder_from
remainder_next s i b w x h =
    let k : ℕ = 8 * b in
    let n : ℕ = 8 * (length s - (i + b)) in
    let t : ℕ = le_value (drop (i + b) s) in
    let l = h.0 in
    let m : 8 * (length s - i) ≡ k + n = omega arith in
    let v : le_value (drop i s) ≡ bit_xor w (t * 2 ^ k) =
    h.2 ∙ add_comm w (2 ^ k * t) ∙ ap (λ (y : ℕ). y + w) (mul_comm (2 ^ k) t) ∙ sym (xor_shifted t k w h.1) ∙ xor_comm (t * 2 ^ k) w in
    ap₂ (λ (j y : ℕ). shift_bits j (bit_xor x y)) m v
    ∙ sym (shift_bits_add k n (bit_xor x (bit_xor w (t * 2 ^ k))))
    ∙ ap (shift_bits n) (ap (shift_bits k) (sym (xor_assoc x w (t * 2 ^ k))) ∙ steps_under k (bit_xor x w) t)

-- a word, where more is added to it and y to what comes after it
pub remainder_more : (s : List ℕ) (i w z more y : ℕ) → At s i 8 w
    → remainder_from s i (bit_xor z (bit_xor more (up 64 y))) ≡ remainder_from s (i + 8) (bit_xor (shift_bits 64 (bit_xor z (bit_xor more w))) y)
unfolding up
remainder_more s i w z more y h =
    let e : bit_xor (bit_xor z (bit_xor more (y * 2 ^ 64))) w ≡ bit_xor (bit_xor z (bit_xor more w)) (y * 2 ^ 64) =
    xor_assoc z (bit_xor more (y * 2 ^ 64)) w ∙ ap (bit_xor z) (xor_last more (y * 2 ^ 64) w) ∙ sym (xor_assoc z (bit_xor more w) (y * 2 ^ 64)) in
    remainder_next s i 8 w (bit_xor z (bit_xor more (y * 2 ^ 64))) h
    ∙ ap (remainder_from s (i + 8)) (ap (shift_bits 64) e ∙ steps_under 64 (bit_xor z (bit_xor more w)) y)

-- what has one remainder after k steps has one after more, under whatever is added
same_after : (k n x a b t : ℕ) → shift_bits k a ≡ shift_bits k b → shift_bits (k + n) (bit_xor (bit_xor x a) t) ≡ shift_bits (k + n) (bit_xor (bit_xor x b) t)
same_after k n x a b t e =
    sym (shift_bits_add k n (bit_xor (bit_xor x a) t))
    ∙ ap (shift_bits n) (apart a ∙ ap (λ (y : ℕ). bit_xor (bit_xor (shift_bits k x) y) (shift_bits k t)) e ∙ sym (apart b))
    ∙ shift_bits_add k n (bit_xor (bit_xor x b) t)
  where
    apart : (y : ℕ) → shift_bits k (bit_xor (bit_xor x y) t) ≡ bit_xor (bit_xor (shift_bits k x) (shift_bits k y)) (shift_bits k t)
    apart y = shift_bits_linear k (bit_xor x y) t ∙ ap (λ (z : ℕ). bit_xor z (shift_bits k t)) (shift_bits_linear k x y)

-- a word of b bytes taken away
module _ (ks : List ℕ) (m b e : ℕ) (g : Spreads ks m (8 * b) e) (s : List ℕ) where
  remainder_swap : (i x u : ℕ) → e + 8 * b ≤ 8 * (length s - i) → u < 2 ^ (8 * b)
      → remainder_from s i (bit_xor x (shift_bits (8 * b) u)) ≡ remainder_from s i (bit_xor x (spread ks m e u))
  unfolding remainder_from
  remainder_swap i x u h l =
      let n : ℕ = 8 * (length s - i) - (e + 8 * b) in
      let q : 8 * (length s - i) ≡ (e + 8 * b) + n = omega arith in
      let t : ℕ = le_value (drop i s) in
      ap (λ (k : ℕ). shift_bits k (bit_xor (bit_xor x (shift_bits (8 * b) u)) t)) q
      ∙ same_after (e + 8 * b) n x (shift_bits (8 * b) u) (spread ks m e u) t (spread_steps ks m (8 * b) e g u l)
      ∙ sym (ap (λ (k : ℕ). shift_bits k (bit_xor (bit_xor x (spread ks m e u)) t)) q)

  pub remainder_fold : (i w x : ℕ) → At s i b w → e + 8 * b ≤ 8 * (length s - (i + b))
      → remainder_from s i x ≡ remainder_from s (i + b) (bit_xor (down (8 * b) x) (spread ks m e (bit_xor (x % 2 ^ (8 * b)) w)))
  unfolding down
  remainder_fold i w x h n =
      let c : ℕ = 8 * b in
      let u : ℕ = bit_xor (x % 2 ^ c) w in
      let hi : bit_xor x w / 2 ^ c ≡ x / 2 ^ c = xor_shr x w c ∙ ap (bit_xor (x / 2 ^ c)) (div-eq_of_lt h.1) ∙ xor_zero_r (x / 2 ^ c) in
      let lo : bit_xor x w % 2 ^ c ≡ u = xor_mod x w c ∙ ap (bit_xor (x % 2 ^ c)) (mod-eq_of_lt h.1) in
      remainder_next s i b w x h
      ∙ ap (remainder_from s (i + b)) (shift_bits_split c (bit_xor x w) ∙ ap₂ (λ (y z : ℕ). bit_xor y (shift_bits c z)) hi lo)
      ∙ remainder_swap (i + b) (x / 2 ^ c) u n (xor_lt c (x % 2 ^ c) w (mod-lt x (pow_pos c)) h.1)

-- ---- bytes
bytes_of_holds : (s : List ℕ) → ((k : ℕ) → get_or s k 0 < 256) → AreBytes s
bytes_of_holds [] h = tt
bytes_of_holds (b ∷ bs) h = (h 0, bytes_of_holds bs (λ k. h (suc k)))

pub remainder_crc : (s : List ℕ) (c : ℕ) → ((k : ℕ) → get_or s k 0 < 256) → remainder_from s 0 c ≡ crc_from c s
unfolding remainder_from
remainder_crc s c h =
    let z : length s - 0 ≡ length s = omega arith in
    ap (λ (n : ℕ). shift_bits (8 * n) (bit_xor c (le_value s))) z ∙ sym (crc_from_value c s (bytes_of_holds s h))

pub remainder_end : (s : List ℕ) (i c : ℕ) → i ≡ length s → remainder_from s i c ≡ c
unfolding remainder_from shift_bits
remainder_end s i c e =
    let z : 8 * (length s - i) ≡ 0 = omega arith in
    ap₂ (λ (n j : ℕ). shift_bits n (bit_xor c (le_value (drop j s)))) z e ∙ ap (λ (l : List ℕ). bit_xor c (le_value l)) (drop-length s) ∙ xor_zero_r c

pub le_step : (s : List ℕ) (i j : ℕ) → i < length s → i + 1 ≡ j → le_value (drop i s) ≡ get_or s i 0 + 256 * le_value (drop j s)
le_step s i j h e = ap le_value (drop-cons s i 0 h) ∙ ap (λ (n : ℕ). get_or s i 0 + 256 * le_value (drop n s)) (sym (add-one i) ∙ e)
