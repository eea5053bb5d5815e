-- No range of the grammar holds 0 or a number from 256 on, so no text does, and the machine refuses it everywhere. So no law has to ask
-- that a list is one of bytes. And no range is empty, so every state can be ended.
-- Assumes nothing.
use Prim.Native.Nat.{ℕ, zero, suc, ◌<◌, ◌≤◌}
use mathlib.Core.Path.{◌≡◌, refl, sym, ap, ap₂, ◌∙◌}
use mathlib.Core.Bool.{Bool, true, false}
use mathlib.Core.List.{List, [], ◌∷◌, ◌++◌}
use mathlib.Core.Logic.{◌⊎◌, inl, inr, ⊎_elim}
use native.Mathlib.Omega.{arith}
use borrow.Author.Tests.{lt-leb, ltb-true}
use lib.Dec.{ltb, leb}
use lib.ListN.{get_or, get_or-eq_default}
use Rattle.octets.proofs.Logic.{both_true, both_none, le_or_lt}
use Rattle.octets.proofs.Lists.{each_below}
use Rattle.json_grammar.specs.Abnf.{Abnf, range, ◌·◌, ◌or◌, empty, many}
use Rattle.json_machine.specs.Table.{classes}
use Rattle.octets.specs.Logic.{both}
use Rattle.json_machine.proofs.Derive.{derive, rests, is_productive, productive}
use Rattle.json_machine.proofs.Plain.{plain_value}
use Rattle.json_machine.proofs.Modes.{Mode, m-value, m-after, m-firstItem, m-firstMember, m-key, m-colon, m_token, m_string, m_name, each_token, each_string}
use Rattle.json_machine.proofs.Step.{still, next_on, next_at, stills, after_value, colon}
use Rattle.json_machine.proofs.Right.{right}

-- each range is one of 1 to 255
abbrev within : Abnf → Bool
within (range lo hi) = both (ltb 0 lo) (ltb hi 256)
within (x · y) = both (within x) (within y)
within (x or y) = both (within x) (within y)
within empty = true
within (many x) = within x

abbrev all_within : List Abnf → Bool
all_within [] = true
all_within (x ∷ k) = both (within x) (all_within k)

-- ---- nothing is left after such a number

module _ (b : ℕ) (outside : (b ≡ 0) ⊎ (256 ≤ b)) where
  not_in : (lo hi : ℕ) → 0 < lo → hi < 256 → both (leb lo b) (leb b hi) ≡ false
  not_in lo hi l h =
      ⊎_elim
      (λ (e : b ≡ 0). let z : b < lo = omega arith in rw (lt-leb lo b z) refl)
      (λ (e : 256 ≤ b). let z : hi < b = omega arith in rw (lt-leb b hi z) (both_none (leb lo b)))
      outside

  none : (x : Abnf) (k : List Abnf) → within x ≡ true → derive b x k [] ≡ []
  none (range lo hi) k e =
      let w = both_true (ltb 0 lo) (ltb hi 256) e in
      rw (not_in lo hi (ltb-true 0 lo w.0) (ltb-true hi 256 w.1)) refl
  none (x · y) k e = let w = both_true (within x) (within y) e in ap (derive b x (y ∷ k)) (none y k w.1) ∙ none x (y ∷ k) w.0
  none (x or y) k e = let w = both_true (within x) (within y) e in ap₂ (λ (l m : List (List Abnf)). l ++ m) (none x k w.0) (none y k w.1)
  none empty k e = refl
  none (many x) k e = ap (λ (l : List (List Abnf)). l ++ []) (none x (many x ∷ k) e)

  rests_none : (k : List Abnf) → all_within k ≡ true → rests b k ≡ []
  rests_none [] e = refl
  rests_none (x ∷ k) e = let w = both_true (within x) (all_within k) e in ap (derive b x k) (rests_none k w.1) ∙ none x k w.0

-- ---- of whatever may still come: its ranges, and that some text is left

within_value : (d : ℕ) → within (plain_value d) ≡ true
within_value zero = refl
within_value (suc d) = rw (within_value d) refl

productive_value : (d : ℕ) → is_productive (plain_value d) ≡ true
productive_value zero = refl
productive_value (suc d) = refl

-- some text is left, and each range is one of 1 to 255
abbrev usable : List Abnf → Bool
usable k = both (productive k) (all_within k)

usable_after : (d : ℕ) (fs : List Bool) → usable (after_value d fs) ≡ true
usable_after d [] = refl
usable_after d (false ∷ fs) = rw (within_value d) (usable_after (suc d) fs)
usable_after d (true ∷ fs) = rw (within_value d) (usable_after (suc d) fs)

usable_colon : (d : ℕ) (fs : List Bool) → usable (colon d fs) ≡ true
usable_colon d fs = rw (productive_value d, within_value d) (usable_after (suc d) fs)

usable_still : (m : Mode) (d : ℕ) (fs : List Bool) → usable (still m d fs) ≡ true
usable_still m-value d fs = rw (productive_value d, within_value d) (usable_after d fs)
usable_still m-after d fs = usable_after d fs
usable_still m-firstItem d fs = rw (within_value d) (usable_after (suc d) fs)
usable_still m-firstMember d fs = rw (within_value d) (usable_after (suc d) fs)
usable_still m-key d fs = rw (productive_value d, within_value d) (usable_after (suc d) fs)
usable_still m-colon d fs = usable_colon d fs
usable_still (m_token t) d fs = each_token (λ m. usable (still m d fs)) (λ m. usable (after_value d fs)) refl t ∙ usable_after d fs
usable_still (m_string s) d fs = each_string (λ m. usable (still m d fs)) (λ m. usable (after_value d fs)) m_string refl s ∙ usable_after d fs
usable_still (m_name s) d fs = each_string (λ m. usable (still m d fs)) (λ m. usable (colon d fs)) m_name refl s ∙ usable_colon d fs

module _ (m : Mode) (d : ℕ) (fs : List Bool) where
  productive_and_within : (productive (still m d fs) ≡ true) × (all_within (still m d fs) ≡ true)
  productive_and_within = both_true (productive (still m d fs)) (all_within (still m d fs)) (usable_still m d fs)

  pub productive_still : productive (still m d fs) ≡ true
  productive_still = productive_and_within.0

  within_still : all_within (still m d fs) ≡ true
  within_still = productive_and_within.1

-- ---- the machine takes a number from 256 on for 0

class_past : (b : ℕ) → 256 ≤ b → get_or classes b 0 ≡ get_or classes 0 0
unfolding classes
class_past b h = get_or-eq_default classes 0 h

module _ (m : Mode) (d : ℕ) (fs : List Bool) where
  below : (b : ℕ) → b < 256 → rests b (still m d fs) ≡ stills (next_at m d fs b)
  below b l = each_below [] (λ b. rests b (still m d fs)) (λ b. stills (next_at m d fs b)) 256 (right m d fs) b l

  past : (b : ℕ) → 256 ≤ b → rests b (still m d fs) ≡ stills (next_at m d fs b)
  past b h =
      rests_none b (inr h) (still m d fs) (within_still m d fs)
      ∙ sym (rests_none 0 (inl refl) (still m d fs) (within_still m d fs))
      ∙ below 0 (omega arith)
      ∙ sym (ap (λ (c : ℕ). stills (next_on m d fs c)) (class_past b h))

  -- what may still come after any number is what the tables say
  pub rests_are : (b : ℕ) → rests b (still m d fs) ≡ stills (next_at m d fs b)
  rests_are b = ⊎_elim (λ (h : 256 ≤ b). past b h) (λ (l : b < 256). below b l) (le_or_lt 256 b)
