-- Damage that the checksum always shows (FORMAT.md, What the checksum promises): two files that differ in one short stretch.
-- Assumes nothing.
use Rattle.std.specs.Prelude.{ℕ, ◌+◌, ◌≡◌, List, take, drop}

-- equal but for n bytes from a position on: equal before it, and equal from n further on
abbrev pub SameBut : ℕ → ℕ → List ℕ → List ℕ → Type 0
SameBut n at a b = (take at a ≡ take at b) × (drop (at + n) a ≡ drop (at + n) b)

-- different at most within n neighbouring bytes, wherever these stand
abbrev pub DifferWithin : ℕ → List ℕ → List ℕ → Type 0
DifferWithin n a b = (at : ℕ) × SameBut n at a b
