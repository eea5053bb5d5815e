-- A list of section types as a function from place to type, as the rules on types take it.
-- Assumes nothing.
use Rattle.std.specs.Prelude.{ℕ, List, get_or}

abbrev pub listed_kind : List ℕ → ℕ → ℕ
listed_kind l j = get_or l j 0
