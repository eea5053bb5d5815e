-- Laws of numbers as bytes, stated once over the width: bounds, value and bytes of each other, and fields at a position.
-- Assumes nothing.
use Prim.Native.Nat.{ℕ, zero, suc, ◌+◌, ◌*◌, ◌/◌, ◌%◌, ◌^◌, ◌<◌, ◌≤◌, zero-le}
use mathlib.Core.Path.{◌≡◌, refl, sym, ap, ap₂, ◌∙◌}
use mathlib.Core.List.{List, [], ◌∷◌, ◌++◌}
use native.Mathlib.Omega.{arith}
use native.Mathlib.Nat.{lt_of_lt_of_le, pow-le-pow_right, add-suc, suc-add, zero-add, zero-mul, div-lt_iff_lt-mul, div-add-mod, add_comm, pow-succ', pow-suc, mul_assoc, add-mul, add_assoc, mod-eq_of_lt, mod-one, add-zero, mul-one, mul-suc, div-one, div-div-eq-div-mul}
use native.Mathlib.Numerals.{add-one}
use lib.Arith.{mod-mul, digits_lt, lt-one}
use lib.Dec.{lit<}
use lib.Pow.{pow-add}
use lib.Seq.{drop-drop, drop_at, take_at}
use lib.ListN.{length, take, drop, length-take, length-drop}
use Rattle.octets.specs.Bytes.{AreBytes, be_from, be_value, field, le_field, le_value, be_bytes, le_bytes}

-- ---- powers of 256

pub pow_pos_of : (w : ℕ) → 0 < 256 ^ w
pow_pos_of w = pow-le-pow_right {n = 256} (lit< tt) {i = 0} {j = w} zero-le

pub pow_le : {i j : ℕ} → i ≤ j → 256 ^ i ≤ 256 ^ j
pow_le {i} {j} h = pow-le-pow_right {n = 256} (lit< tt) {i = i} {j = j} h

-- a shift by whole bytes divides by a power of 256
pub pow_bytes : (j : ℕ) → 2 ^ (8 * j) ≡ 256 ^ j
pow_bytes zero = refl
pow_bytes (suc j) = ap (λ (n : ℕ). 2 ^ n) (mul-suc 8 j) ∙ pow-add 2 (8 * j) 8 ∙ ap (λ (n : ℕ). n * 256) (pow_bytes j) ∙ sym (pow-suc 256 j)

-- one digit more is below the next power
pub digit_lt : (i : ℕ) {v b : ℕ} → v < 256 ^ i → b < 256 → v * 256 + b < 256 ^ (i + 1)
digit_lt i hv hb = rw (add-one, pow-suc) (digits_lt hv hb)

-- also where its weight is the highest
pub weighted_lt : (i : ℕ) {v b : ℕ} → v < 256 ^ i → b < 256 → v + b * 256 ^ i < 256 ^ (i + 1)
weighted_lt i {v} {b} hv hb = rw (add-one, pow-succ', add_comm v (b * 256 ^ i)) (digits_lt hb hv)

-- and then it fits 64 bits where there are at most eight
pub weighted_fits : (i : ℕ) {v b : ℕ} → i < 8 → v < 256 ^ i → b < 256 → v + b * 256 ^ i < 2 ^ 64
weighted_fits i hi hv hb = lt_of_lt_of_le (weighted_lt i hv hb) (pow_le {i = i + 1} {j = 8} (omega arith))

-- ---- byte strings

pub bytes_append : (x y : List ℕ) → AreBytes x → AreBytes y → AreBytes (x ++ y)
bytes_append [] y a b = b
bytes_append (u ∷ x) y a b = (a.0, bytes_append x y a.1 b)

pub bytes_take : (n : ℕ) (s : List ℕ) → AreBytes s → AreBytes (take n s)
bytes_take zero s a = tt
bytes_take (suc n) [] a = tt
bytes_take (suc n) (x ∷ xs) a = (a.0, bytes_take n xs a.1)

pub bytes_drop : (n : ℕ) (s : List ℕ) → AreBytes s → AreBytes (drop n s)
bytes_drop zero s a = a
bytes_drop (suc n) [] a = tt
bytes_drop (suc n) (x ∷ xs) a = bytes_drop n xs a.1

pub bytes_part : (n at : ℕ) (s : List ℕ) → AreBytes s → AreBytes (take n (drop at s))
bytes_part n at s a = bytes_take n (drop at s) (bytes_drop at s a)

pub bytes_be : (w n : ℕ) → AreBytes (be_bytes w n)
bytes_be zero n = tt
bytes_be (suc w) n = (omega arith, bytes_be w n)

pub length_be_bytes : (w n : ℕ) → length (be_bytes w n) ≡ w
length_be_bytes zero n = refl
length_be_bytes (suc w) n = ap suc (length_be_bytes w n)

pub length_le_bytes : (w n : ℕ) → length (le_bytes w n) ≡ w
length_le_bytes zero n = refl
length_le_bytes (suc w) n = ap suc (length_le_bytes w (n / 256))

-- ---- a value is below the power of the width

pub be_from_lt : (k v : ℕ) (s : List ℕ) → v < 256 ^ k → AreBytes s → be_from v s < 256 ^ (k + length s)
be_from_lt k v [] h a = rw add-zero h
be_from_lt k v (b ∷ bs) h a =
    rw (add-suc, ← suc-add, ← add-one k) (be_from_lt (k + 1) (v * 256 + b) bs (digit_lt k h a.0) a.1)

pub be_value_lt : (s : List ℕ) → AreBytes s → be_value s < 256 ^ length s
unfolding be_value
be_value_lt s a = rw zero-add at (be_from_lt 0 0 s (lit< tt) a)

pub le_value_lt : (s : List ℕ) → AreBytes s → le_value s < 256 ^ length s
le_value_lt [] a = lit< tt
le_value_lt (b ∷ bs) a = rw pow-suc (let h = digits_lt (le_value_lt bs a.1) a.0 in omega arith)

-- ---- bytes of a number, and their value

pub be_read : (a w n : ℕ) → be_from a (be_bytes w n) ≡ a * 256 ^ w + n % 256 ^ w
be_read a zero n = sym (ap (λ (x : ℕ). a * 1 + x) (mod-one n) ∙ add-zero (a * 1) ∙ mul-one a)
be_read a (suc w) n =
    be_read (a * 256 + n / 256 ^ w % 256) w n
    ∙ simp (add-mul, pow-succ', ← mul_assoc, mod-mul n {m = 256} {c = 256 ^ w} (lit< tt) (pow_pos_of w), add_assoc)

pub be_value_be_bytes : (w n : ℕ) → n < 256 ^ w → be_value (be_bytes w n) ≡ n
unfolding be_value
be_value_be_bytes w n h = be_read 0 w n ∙ simp (zero-mul, zero-add, mod-eq_of_lt h)

pub le_value_le_bytes : (w n : ℕ) → n < 256 ^ w → le_value (le_bytes w n) ≡ n
le_value_le_bytes zero n h = sym (lt-one h)
le_value_le_bytes (suc w) n h =
    rw (le_value_le_bytes w (n / 256) ((div-lt_iff_lt-mul (lit< tt)).1 (rw pow-suc at h))) (add_comm (n % 256) (256 * (n / 256)) ∙ div-add-mod n 256)

-- ---- value of bytes, and its bytes

be_div : (c : ℕ) (s : List ℕ) → AreBytes s → be_from c s / 256 ^ length s ≡ c
be_div c [] a = div-one c
be_div c (b ∷ bs) a =
    let h = a.0 in
    let e : (c * 256 + b) / 256 ≡ c = omega arith in
    rw pow-suc (sym (div-div-eq-div-mul (be_from (c * 256 + b) bs) (256 ^ length bs) 256))
    ∙ ap (λ (x : ℕ). x / 256) (be_div (c * 256 + b) bs a.1) ∙ e

be_write : (c : ℕ) (s : List ℕ) → AreBytes s → be_bytes (length s) (be_from c s) ≡ s
be_write c [] a = refl
be_write c (b ∷ bs) a =
    let h = a.0 in
    let e : (c * 256 + b) % 256 ≡ b = omega arith in
    ap₂ (λ (x : ℕ) (xs : List ℕ). x ∷ xs) (ap (λ (x : ℕ). x % 256) (be_div (c * 256 + b) bs a.1) ∙ e) (be_write (c * 256 + b) bs a.1)

pub be_bytes_be_value : (s : List ℕ) → AreBytes s → be_bytes (length s) (be_value s) ≡ s
unfolding be_value
be_bytes_be_value s a = be_write 0 s a

pub le_bytes_le_value : (s : List ℕ) → AreBytes s → le_bytes (length s) (le_value s) ≡ s
le_bytes_le_value [] a = refl
le_bytes_le_value (b ∷ bs) a =
    let h = a.0 in
    let q : (b + 256 * le_value bs) / 256 ≡ le_value bs = omega arith in
    let r : (b + 256 * le_value bs) % 256 ≡ b = omega arith in
    rw (q, r, le_bytes_le_value bs a.1)

pub field_length : (w at : ℕ) (s : List ℕ) → at + w ≤ length s → length (take w (drop at s)) ≡ w
field_length w at s h = simp (length-take, length-drop) (omega arith)

-- ---- a field: its bound, what it is right after a string, further on, and in a rest; for any way to give a string a number

module _ (value : List ℕ → ℕ) where
  abbrev part : ℕ → ℕ → List ℕ → ℕ
  part w at s = value (take w (drop at s))

  part_lt : ((s : List ℕ) → AreBytes s → value s < 256 ^ length s) → (w at : ℕ) (s : List ℕ) → AreBytes s → part w at s < 256 ^ w
  part_lt lt w at s a =
      let n : length (take w (drop at s)) ≤ w = simp length-take (omega arith) in
      lt_of_lt_of_le (lt (take w (drop at s)) (bytes_part w at s a)) (pow_le n)

  part_at_holds : (w n at : ℕ) (a x b : List ℕ) → length a ≡ at → length x ≡ w → value x ≡ n → part w at (a ++ (x ++ b)) ≡ n
  part_at_holds w n at a x b e l v = rw (drop_at a (x ++ b) at e, take_at x b w l) v

  part_drop : (w k at : ℕ) (s : List ℕ) → part w (at + k) s ≡ part w k (drop at s)
  part_drop w k at s = ap (λ (x : List ℕ). value (take w x)) (sym (drop-drop k at s))

  part_past : (w k at : ℕ) (a b : List ℕ) → length a ≡ at → part w (at + k) (a ++ b) ≡ part w k b
  part_past w k at a b e = part_drop w k at (a ++ b) ∙ ap (part w k) (drop_at a b at e)

pub field_lt : (w at : ℕ) (s : List ℕ) → AreBytes s → field w at s < 256 ^ w
unfolding field
field_lt = part_lt be_value be_value_lt

pub le_field_lt : (w at : ℕ) (s : List ℕ) → AreBytes s → le_field w at s < 256 ^ w
unfolding le_field
le_field_lt = part_lt le_value le_value_lt

pub field_at : (w n at : ℕ) (a b : List ℕ) → length a ≡ at → n < 256 ^ w → field w at (a ++ (be_bytes w n ++ b)) ≡ n
unfolding field
field_at w n at a b e h = part_at_holds be_value w n at a (be_bytes w n) b e (length_be_bytes w n) (be_value_be_bytes w n h)

pub le_field_at : (w n at : ℕ) (a b : List ℕ) → length a ≡ at → n < 256 ^ w → le_field w at (a ++ (le_bytes w n ++ b)) ≡ n
unfolding le_field
le_field_at w n at a b e h = part_at_holds le_value w n at a (le_bytes w n) b e (length_le_bytes w n) (le_value_le_bytes w n h)

pub field_drop : (w k at : ℕ) (s : List ℕ) → field w (at + k) s ≡ field w k (drop at s)
unfolding field
field_drop = part_drop be_value

pub le_field_drop : (w k at : ℕ) (s : List ℕ) → le_field w (at + k) s ≡ le_field w k (drop at s)
unfolding le_field
le_field_drop = part_drop le_value

pub field_drop0 : (w at : ℕ) (s : List ℕ) → field w at s ≡ field w 0 (drop at s)
unfolding field
field_drop0 w at s = refl

pub le_field_drop0 : (w at : ℕ) (s : List ℕ) → le_field w at s ≡ le_field w 0 (drop at s)
unfolding le_field
le_field_drop0 w at s = refl

pub field_past : (w k at : ℕ) (a b : List ℕ) → length a ≡ at → field w (at + k) (a ++ b) ≡ field w k b
unfolding field
field_past = part_past be_value
