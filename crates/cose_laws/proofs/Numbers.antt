-- What is written reads back: each part of the claim stands where the reader takes it, also where more bytes follow.
-- Assumes nothing.
use Prim.Native.Nat.{ℕ, ◌+◌, ◌^◌, ◌<◌, ◌≤◌}
use mathlib.Core.Path.{◌≡◌, refl, sym, ap, ap₂, ◌∙◌}
use mathlib.Core.List.{List, [], ◌∷◌, ◌++◌, append_assoc}
use mathlib.Core.Logic.{⊎_elim}
use native.Mathlib.Omega.{arith}
use lib.ListN.{length, get_or, length-append}
use lib.Seq.{get_or_at, get_or-append-add}
use Rattle.octets.specs.Bytes.{AreBytes, be_bytes, field}
use Rattle.octets.proofs.Value.{field_at, field_past}
use Rattle.octets.proofs.Logic.{le_or_lt}
use Rattle.cose.specs.Cbor.{unsigned, in_one_byte, in_two_bytes, in_four_bytes, in_eight_bytes, one_byte_limit, two_byte_limit, four_byte_limit, head_bytes, numbers_bytes}
use Rattle.cose.specs.Read.{number_width, number_at, number_end, byte_at, byte_end, bytes_from, bytes_end}
use Rattle.cose_lemmas.proofs.Head.{own_one, head_two, head_three, head_five, head_nine, size_one, size_two, size_three, size_five, size_nine}
use Rattle.cose_lemmas.proofs.Numbers.{at_own, at_after, field_one, width_own, byte_one, byte_two, byte_end_one, byte_end_two}

-- ---- one number

-- the five forms of a head
pub data Form (n : ℕ) : Type 0 where
  one : n < in_one_byte → Form n
  two : in_one_byte ≤ n → n < one_byte_limit → Form n
  three : one_byte_limit ≤ n → n < two_byte_limit → Form n
  five : two_byte_limit ≤ n → n < four_byte_limit → Form n
  nine : four_byte_limit ≤ n → Form n

pub form : (n : ℕ) → Form n
form n =
    ⊎_elim (λ a. ⊎_elim (λ b. ⊎_elim (λ c. ⊎_elim (λ d. nine d) (λ d. five c d) (le_or_lt four_byte_limit n)) (λ c. three b c) (le_or_lt two_byte_limit n)) (λ b. two a b) (le_or_lt one_byte_limit n)) (λ a. one a) (le_or_lt in_one_byte n)

module _ (p r : List ℕ) (at : ℕ) (e : length p ≡ at) where
  first_is : (b : ℕ) (x : List ℕ) → get_or (p ++ (b ∷ x)) at 0 ≡ b
  first_is b x = get_or_at p b x 0 at e

  second_is : (b c : ℕ) (x : List ℕ) → get_or (p ++ (b ∷ c ∷ x)) (at + 1) 0 ≡ c
  second_is b c x = ap (λ (k : ℕ). get_or (p ++ (b ∷ c ∷ x)) (k + 1) 0) (sym e) ∙ get_or-append-add p (b ∷ c ∷ x) 1 0

  wide_is : (w b n : ℕ) → n < 256 ^ w → field w (at + 1) (p ++ (b ∷ (be_bytes w n ++ r))) ≡ n
  wide_is w b n h = field_past w 1 at p (b ∷ (be_bytes w n ++ r)) e ∙ field_at w n 1 (b ∷ []) r refl h

  abbrev with : List ℕ → List ℕ
  with h = p ++ (h ++ r)

  -- a number that follows the first byte, and where the head ends
  after_is : (b : ℕ) (x : List ℕ) → in_one_byte ≤ b → (w : ℕ) → number_width b ≡ w → number_at (p ++ (b ∷ x)) at ≡ field w (at + 1) (p ++ (b ∷ x))
  after_is b x l w e = at_after (p ++ (b ∷ x)) at (rw (first_is b x) l) w (ap number_width (first_is b x) ∙ e)

  end_is : (b : ℕ) (x : List ℕ) (w n : ℕ) → number_width b ≡ w → 1 + w ≡ n → number_end (p ++ (b ∷ x)) at ≡ at + n
  unfolding number_end
  end_is b x w n e h = ap (λ (k : ℕ). at + 1 + number_width k) (first_is b x) ∙ ap (λ (k : ℕ). at + 1 + k) e ∙ omega arith

  module _ (n : ℕ) where
    pub number_back : n < 2 ^ 64 → Form n → number_at (with (head_bytes unsigned n)) at ≡ n
    unfolding number_width
    number_back k (one h) =
        ap (λ (x : List ℕ). number_at (with x) at) (own_one n h) ∙ at_own (p ++ (n ∷ r)) at (rw (first_is n r) h) ∙ first_is n r
    number_back k (two l h) =
        ap (λ (x : List ℕ). number_at (with x) at) (head_two unsigned n l h) ∙ after_is in_one_byte (n ∷ r) (omega arith) 1 refl
        ∙ field_one (p ++ (in_one_byte ∷ n ∷ r)) (at + 1) ∙ second_is in_one_byte n r
    number_back k (three l h) =
        ap (λ (x : List ℕ). number_at (with x) at) (head_three unsigned n l h) ∙ after_is in_two_bytes (be_bytes 2 n ++ r) (omega arith) 2 refl ∙ wide_is 2 in_two_bytes n h
    number_back k (five l h) =
        ap (λ (x : List ℕ). number_at (with x) at) (head_five unsigned n l h) ∙ after_is in_four_bytes (be_bytes 4 n ++ r) (omega arith) 4 refl ∙ wide_is 4 in_four_bytes n h
    number_back k (nine l) =
        ap (λ (x : List ℕ). number_at (with x) at) (head_nine unsigned n l) ∙ after_is in_eight_bytes (be_bytes 8 n ++ r) (omega arith) 8 refl ∙ wide_is 8 in_eight_bytes n k

    pub number_ends : Form n → number_end (with (head_bytes unsigned n)) at ≡ at + length (head_bytes unsigned n)
    unfolding number_width
    number_ends (one h) = ap (λ (x : List ℕ). number_end (with x) at) (own_one n h) ∙ end_is n r 0 _ (width_own n h) (size_one n h)
    number_ends (two l h) = ap (λ (x : List ℕ). number_end (with x) at) (head_two unsigned n l h) ∙ end_is in_one_byte (n ∷ r) 1 _ refl (size_two n l h)
    number_ends (three l h) = ap (λ (x : List ℕ). number_end (with x) at) (head_three unsigned n l h) ∙ end_is in_two_bytes (be_bytes 2 n ++ r) 2 _ refl (size_three n l h)
    number_ends (five l h) = ap (λ (x : List ℕ). number_end (with x) at) (head_five unsigned n l h) ∙ end_is in_four_bytes (be_bytes 4 n ++ r) 4 _ refl (size_five n l h)
    number_ends (nine l) = ap (λ (x : List ℕ). number_end (with x) at) (head_nine unsigned n l) ∙ end_is in_eight_bytes (be_bytes 8 n ++ r) 8 _ refl (size_nine n l)

    -- below 256
    module _ (small : n < one_byte_limit) where
      byte_back : byte_at (with (head_bytes unsigned n)) at ≡ n
      byte_back =
          ⊎_elim
          (λ l. ap (λ (x : List ℕ). byte_at (with x) at) (head_two unsigned n l small)
          ∙ byte_two (p ++ (in_one_byte ∷ n ∷ r)) at (rw (first_is in_one_byte (n ∷ r)) (omega arith)) ∙ second_is in_one_byte n r)
          (λ h. ap (λ (x : List ℕ). byte_at (with x) at) (own_one n h) ∙ byte_one (p ++ (n ∷ r)) at (rw (first_is n r) h) ∙ first_is n r)
          (le_or_lt in_one_byte n)

      byte_ends : byte_end (with (head_bytes unsigned n)) at ≡ at + length (head_bytes unsigned n)
      byte_ends =
          ⊎_elim
          (λ l. ap (λ (x : List ℕ). byte_end (with x) at) (head_two unsigned n l small)
          ∙ byte_end_two (p ++ (in_one_byte ∷ n ∷ r)) at (rw (first_is in_one_byte (n ∷ r)) (omega arith)) ∙ ap (λ (k : ℕ). at + k) (size_two n l small))
          (λ h. ap (λ (x : List ℕ). byte_end (with x) at) (own_one n h) ∙ byte_end_one (p ++ (n ∷ r)) at (rw (first_is n r) h)
          ∙ ap (λ (k : ℕ). at + k) (size_one n h))
          (le_or_lt in_one_byte n)

-- ---- a row of numbers

module _ (r : List ℕ) where
  -- the first number apart, and the first number with what stands before it
  apart : (p : List ℕ) (x : ℕ) (xs : List ℕ) → p ++ (numbers_bytes (x ∷ xs) ++ r) ≡ p ++ (head_bytes unsigned x ++ (numbers_bytes xs ++ r))
  apart p x xs = ap (λ (l : List ℕ). p ++ l) (append_assoc (head_bytes unsigned x) (numbers_bytes xs) r)

  behind : (p : List ℕ) (x : ℕ) (xs : List ℕ) → p ++ (numbers_bytes (x ∷ xs) ++ r) ≡ (p ++ head_bytes unsigned x) ++ (numbers_bytes xs ++ r)
  behind p x xs = apart p x xs ∙ sym (append_assoc p (head_bytes unsigned x) (numbers_bytes xs ++ r))

  pub row_back : (v : List ℕ) → AreBytes v → (p : List ℕ) (at : ℕ) → length p ≡ at
      → (bytes_from (p ++ (numbers_bytes v ++ r)) (length v) at ≡ v) × (bytes_end (p ++ (numbers_bytes v ++ r)) (length v) at ≡ at + length (numbers_bytes v))
  unfolding bytes_from bytes_end
  row_back [] a p at e = (refl, let z : at ≡ at + 0 = omega arith in z)
  row_back (x ∷ xs) a p at e =
      let h = head_bytes unsigned x in
      let s = p ++ (numbers_bytes (x ∷ xs) ++ r) in
      let next = at + length h in
      let n : length (p ++ h) ≡ next = length-append p h ∙ ap (λ (k : ℕ). k + length h) e in
      let f = row_back xs a.1 (p ++ h) next n in
      let b : byte_at s at ≡ x = ap (λ (l : List ℕ). byte_at l at) (apart p x xs) ∙ byte_back p (numbers_bytes xs ++ r) at e x a.0 in
      let g : byte_end s at ≡ next = ap (λ (l : List ℕ). byte_end l at) (apart p x xs) ∙ byte_ends p (numbers_bytes xs ++ r) at e x a.0 in
      let m : next + length (numbers_bytes xs) ≡ at + length (h ++ numbers_bytes xs) =
      let q = length-append h (numbers_bytes xs) in omega arith in (
        ap₂ (λ (k : ℕ) (l : List ℕ). k ∷ l) b
            (ap (bytes_from s (length xs)) g ∙ ap (λ (l : List ℕ). bytes_from l (length xs) next) (behind p x xs) ∙ f.0),
        ap (bytes_end s (length xs)) g ∙ ap (λ (l : List ℕ). bytes_end l (length xs) next) (behind p x xs) ∙ f.1 ∙ m,
      )
