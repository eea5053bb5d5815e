-- Bytes that stand for themselves in a string, and parts of a text that leave the mode as it is.
use Rattle.std.specs.Prelude.{ℕ, ◌<◌, ◌≤◌, ◌≡◌, Bool, true, not, List, eqb, ltb, get_or, drop}
use Rattle.octets.specs.Logic.{both}
use Rattle.json_machine.specs.Machine.{walk_from}

-- not below a space, not beyond ASCII, no quotation mark, no backslash
abbrev pub bare : ℕ → Bool
bare b = both (ltb 31 b) (both (ltb b 128) (both (not (eqb b 34)) (not (eqb b 92))))

-- every byte from one place up to another stands for itself
unfoldable pub BareRun : List ℕ → ℕ → ℕ → Type 0
BareRun s from to = (k : ℕ) → from ≤ k → k < to → bare (get_or s k 0) ≡ true

-- the modes in a string, in a value and in a name
abbrev pub char_mode : ℕ
char_mode = 25

abbrev pub name_char_mode : ℕ
name_char_mode = 38

-- inside a string, checking may continue at `to` instead of at `from`: the verdict is the same
unfoldable pub Skipped : List ℕ → ℕ → ℕ → Type 0
Skipped s from to =
    (stack : ℕ)
    → (walk_from char_mode stack to (drop to s) ≡ walk_from char_mode stack from (drop from s)) × (walk_from name_char_mode stack to (drop to s) ≡ walk_from name_char_mode stack from (drop from s))
