-- RFC 5234: what the right side of an ABNF rule is made of, and the bytes that it stands for.
-- Assumes nothing.
use Rattle.std.specs.Prelude.{ℕ, ◌≤◌, List, [], ◌∷◌, ◌++◌}

infixl 70 ◌·◌
infixl 60 ◌or◌
pub data Abnf : Type 0 where
  -- one byte from the first to the last: %x30-39
  range : ℕ → ℕ → Abnf
  -- one after the other
  ◌·◌ : Abnf → Abnf → Abnf
  -- a choice: /
  ◌or◌ : Abnf → Abnf → Abnf
  -- nothing
  empty : Abnf
  -- any number of times, none too: *
  many : Abnf → Abnf

-- `Is x s`: the bytes s are one of the texts of the rule x
pub data Is : Abnf → List ℕ → Type 0 where
  is_range : {lo hi b : ℕ} → lo ≤ b → b ≤ hi → Is (range lo hi) (b ∷ [])
  is_both : {x y : Abnf} {s t : List ℕ} → Is x s → Is y t → Is (x · y) (s ++ t)
  is_left : {x y : Abnf} {s : List ℕ} → Is x s → Is (x or y) s
  is_right : {x y : Abnf} {s : List ℕ} → Is y s → Is (x or y) s
  is_empty : Is empty []
  is_none : {x : Abnf} → Is (many x) []
  is_more : {x : Abnf} {s t : List ℕ} → Is x s → Is (many x) t → Is (many x) (s ++ t)

-- one byte: %x5B
abbrev pub byte : ℕ → Abnf
byte b = range b b

-- once or not at all: [ ]
abbrev pub opt : Abnf → Abnf
opt x = x or empty

-- at least once: 1*
abbrev pub some : Abnf → Abnf
some x = x · many x
