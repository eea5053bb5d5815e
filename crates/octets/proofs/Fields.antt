-- Numbers in either byte order, added up from the byte of the lowest weight; the bytes of a number by their place; and a byte string taken
-- apart at a field. Each law is stated once, over the order and the width.
use Prim.Native.Nat.{ℕ, zero, suc, ◌+◌, ◌-◌, ◌*◌, ◌/◌, ◌%◌, ◌^◌, ◌<◌, ◌≤◌}
use mathlib.Core.Path.{◌≡◌, refl, sym, ap, ◌∙◌, ap₂}
use mathlib.Core.List.{List, [], ◌∷◌, ◌++◌}
use native.Mathlib.Omega.{arith}
use native.Mathlib.Nat.{pow-succ', div-one, div-div-eq-div-mul, add-mul, mul-add, mul_assoc, mul_comm, add_comm, add_assoc, mul-one, add-zero, zero-add}
use native.Mathlib.Numerals.{add-one}
use lib.ListN.{length, get_or, take, drop, length-take, length-drop, drop_of_length-le, take-append-drop}
use lib.Seq.{drop-cons, take-suc, take_all, get_or-take, get_or-drop, drop-drop}
use Rattle.octets.specs.Bytes.{be_from, be_value, le_value, be_bytes, le_bytes, field, le_field, AreBytes}
use Rattle.octets.specs.ByteOrder.{value_of, bytes_of, field_of, byte_weight, low_bytes}
use Rattle.octets.specs.declared.ByteOrder.{ByteOrder}
use Rattle.octets.specs.declared.ByteOrder.TheVariants.{Big, Little}
use Rattle.octets.proofs.Value.{length_be_bytes, length_le_bytes, be_bytes_be_value, le_bytes_le_value, field_length, bytes_part}

pub field_is : (order : ByteOrder) (w at : ℕ) (s : List ℕ) → field_of order w at s ≡ value_of order (take w (drop at s))
unfolding field le_field
field_is Big w at s = refl
field_is Little w at s = refl

-- ---- added up from the byte of the lowest weight

pub no_bytes_holds : (order : ByteOrder) (t : List ℕ) → 0 ≡ low_bytes order t 0
unfolding be_value
no_bytes_holds Big t = rw (drop_of_length-le t {i = length t - 0} (omega arith)) refl
no_bytes_holds Little t = refl

pub all_bytes : (order : ByteOrder) (t : List ℕ) (k : ℕ) → k ≡ length t → low_bytes order t k ≡ value_of order t
all_bytes Big t k e = let z : length t - k ≡ 0 = omega arith in ap (λ (n : ℕ). be_value (drop n t)) z
all_bytes Little t k e = ap le_value (take_all k t (omega arith))

be_first : (u : ℕ) (x : List ℕ) → be_from 0 (u ∷ x) ≡ be_from u x
be_first u x = ap (λ (n : ℕ). be_from n x) (zero-add u)

be_cons : (a : ℕ) (x : List ℕ) → be_from a x ≡ be_from 0 x + a * 256 ^ length x
be_cons a [] = sym (zero-add (a * 1) ∙ mul-one a)
be_cons a (u ∷ x) =
    let p = a * 256 * 256 ^ length x in
    let q = u * 256 ^ length x in
    be_cons (a * 256 + u) x
    ∙ simp (add-mul, pow-succ', ← mul_assoc) (ap (λ (n : ℕ). be_from 0 x + n) (add_comm p q) ∙ sym (add_assoc (be_from 0 x) q p))
    ∙ ap (λ (n : ℕ). n + a * 256 ^ suc (length x)) (sym (be_first u x ∙ be_cons u x))

le_snoc : (x : List ℕ) (b : ℕ) → le_value (x ++ (b ∷ [])) ≡ le_value x + b * 256 ^ length x
le_snoc [] b = simp (mul-one, add-zero, zero-add)
le_snoc (u ∷ x) b = rw (le_snoc x b) (simp (mul-add, pow-succ', ← add_assoc, ← mul_assoc, mul_comm 256 b))

-- the byte of weight k more
pub one_more : (order : ByteOrder) (t : List ℕ) (k : ℕ) → k < length t
    → low_bytes order t (k + 1) ≡ low_bytes order t k + get_or t (byte_weight order (length t) k) 0 * 256 ^ k
unfolding be_value
one_more Big t k h =
    let j : length t - (k + 1) ≡ length t - 1 - k = omega arith in
    let n : suc (length t - 1 - k) ≡ length t - k = omega arith in
    let l : length (drop (length t - k) t) ≡ k = simp length-drop (omega arith) in
    ap (λ (i : ℕ). be_from 0 (drop i t)) j ∙ ap (be_from 0) (drop-cons t (length t - 1 - k) 0 (omega arith))
    ∙ ap (λ (i : ℕ). be_from 0 (get_or t (length t - 1 - k) 0 ∷ drop i t)) n
    ∙ be_first (get_or t (length t - 1 - k) 0) (drop (length t - k) t) ∙ be_cons (get_or t (length t - 1 - k) 0) (drop (length t - k) t)
    ∙ ap (λ (i : ℕ). be_from 0 (drop (length t - k) t) + get_or t (length t - 1 - k) 0 * 256 ^ i) l
one_more Little t k h =
    let l : length (take k t) ≡ k = simp length-take (omega arith) in
    rw (add-one, take-suc t k 0 h)
    (le_snoc (take k t) (get_or t k 0) ∙ ap (λ (i : ℕ). le_value (take k t) + get_or t k 0 * 256 ^ i) l)

-- a byte of a part of a slice
pub part_byte : (w at i : ℕ) (s : List ℕ) → i < w → get_or (take w (drop at s)) i 0 ≡ get_or s (at + i) 0
part_byte w at i s h = rw (get_or-take, get_or-drop)

-- ---- the bytes of a number, by their place

pub length_bytes : (order : ByteOrder) (w n : ℕ) → length (bytes_of order w n) ≡ w
length_bytes Big w n = length_be_bytes w n
length_bytes Little w n = length_le_bytes w n

be_byte : (w n k : ℕ) → k < w → get_or (be_bytes w n) k 0 ≡ n / 256 ^ (w - 1 - k) % 256
be_byte zero n k h = absurd (omega arith)
be_byte (suc w) n zero h = let e : w ≡ suc w - 1 - 0 = omega arith in ap (λ (i : ℕ). n / 256 ^ i % 256) e
be_byte (suc w) n (suc k) h = let e : w - 1 - k ≡ suc w - 1 - suc k = omega arith in be_byte w n k (omega arith) ∙ ap (λ (i : ℕ). n / 256 ^ i % 256) e

le_byte : (w n k : ℕ) → k < w → get_or (le_bytes w n) k 0 ≡ n / 256 ^ k % 256
le_byte zero n k h = absurd (omega arith)
le_byte (suc w) n zero h = ap (λ (i : ℕ). i % 256) (sym (div-one n))
le_byte (suc w) n (suc k) h =
    le_byte w (n / 256) k (omega arith)
    ∙ ap (λ (i : ℕ). i % 256) (div-div-eq-div-mul n 256 (256 ^ k) ∙ ap (λ (i : ℕ). n / i) (sym (pow-succ' 256 k)))

pub byte_at_holds : (order : ByteOrder) (w n k : ℕ) → k < w → get_or (bytes_of order w n) k 0 ≡ n / 256 ^ byte_weight order w k % 256
byte_at_holds Big w n k h = be_byte w n k h
byte_at_holds Little w n k h = le_byte w n k h

-- ---- a byte string taken apart at a field

bytes_of_value : (order : ByteOrder) (x : List ℕ) → AreBytes x → bytes_of order (length x) (value_of order x) ≡ x
bytes_of_value Big x w = be_bytes_be_value x w
bytes_of_value Little x w = le_bytes_le_value x w

module _ (s : List ℕ) (w : AreBytes s) where
  -- the field, and what stands after it
  split_at : (order : ByteOrder) (k at : ℕ) → at + k ≤ length s → drop at s ≡ bytes_of order k (field_of order k at s) ++ drop (at + k) s
  split_at order k at h =
      let b : List ℕ = take k (drop at s) in
      sym (take-append-drop k (drop at s))
      ∙ ap₂ (λ (x y : List ℕ). x ++ y)
      (sym (bytes_of_value order b (bytes_part k at s w))
      ∙ ap₂ (λ (n m : ℕ). bytes_of order n m) (field_length k at s h) (sym (field_is order k at s)))
      (drop-drop k at s)

  pub be_split : (k at : ℕ) → at + k ≤ length s → drop at s ≡ be_bytes k (field k at s) ++ drop (at + k) s
  be_split = split_at Big

  pub le_split : (k at : ℕ) → at + k ≤ length s → drop at s ≡ le_bytes k (le_field k at s) ++ drop (at + k) s
  le_split = split_at Little
