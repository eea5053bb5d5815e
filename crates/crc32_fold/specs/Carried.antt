-- What the functions of this crate tell each other beyond `crc32_lemmas/specs/Fold`: what five numbers carry, and one word taken in.
-- Assumes nothing.
use Rattle.std.specs.Prelude.{ℕ, ◌+◌, ◌≡◌, List, [], ◌∷◌, get_or}
use Rattle.std.specs.Int.Bits.{bit_xor}
use Rattle.crc32_lemmas.specs.Fold.{up, num, remainder_from}
use Rattle.crc32_fold.specs.declared.Carry.{Carry}

-- the five words of what is carried
unfoldable pub carried : Carry → ℕ
carried n = num 64 5 (λ (k : ℕ). get_or (n.a ∷ n.b ∷ n.c ∷ n.d ∷ n.e ∷ []) k 0)

-- from the state and what was added to the word at i, the state r after the word, whatever y is added to what comes after it
abbrev pub WordTaken : List ℕ → ℕ → ℕ → ℕ → ℕ → Type 0
WordTaken s i state more r = (y : ℕ) → remainder_from s (i + 8) (bit_xor r y) ≡ remainder_from s i (bit_xor state (bit_xor more (up 64 y)))
