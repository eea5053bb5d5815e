-- The number that a byte string stands for, the byte string of a number, and a number read at a position.
-- A byte string is a list of numbers below 256. Assumes nothing.
use Rattle.std.specs.Prelude.{ℕ, zero, suc, ◌+◌, ◌*◌, ◌/◌, ◌%◌, ◌^◌, ◌<◌, List, [], ◌∷◌, take, drop}
use Rattle.octets.specs.Lists.{joined_by}

-- each element is a byte; not by `All` of Lists, which does not unfold by itself, as proofs over bytes need it
abbrev pub AreBytes : List ℕ → Type 0
AreBytes [] = Unit
AreBytes (b ∷ bs) = (b < 256) × AreBytes bs

-- big-endian, going on from the number that the bytes before stand for
abbrev pub be_from : ℕ → List ℕ → ℕ
be_from a [] = a
be_from a (b ∷ bs) = be_from (a * 256 + b) bs

-- big-endian: the first byte counts most
unfoldable pub be_value : List ℕ → ℕ
be_value bs = be_from 0 bs

-- little-endian: the first byte counts least
abbrev pub le_value : List ℕ → ℕ
le_value [] = 0
le_value (b ∷ bs) = b + 256 * le_value bs

-- the w low bytes of n, highest first
abbrev pub be_bytes : ℕ → ℕ → List ℕ
be_bytes zero n = []
be_bytes (suc w) n = n / 256 ^ w % 256 ∷ be_bytes w n

-- numbers one after the other, w bytes each, highest first
abbrev pub be_bytes_each : ℕ → List ℕ → List ℕ
be_bytes_each w l = joined_by (be_bytes w) l

-- the w low bytes of n, lowest first
abbrev pub le_bytes : ℕ → ℕ → List ℕ
le_bytes zero n = []
le_bytes (suc w) n = n % 256 ∷ le_bytes w (n / 256)

-- the big-endian number of the w bytes at a position; where the string ends sooner, of those that there are (none: 0)
unfoldable pub field : ℕ → ℕ → List ℕ → ℕ
field w at s = be_value (take w (drop at s))

-- the same, little-endian
unfoldable pub le_field : ℕ → ℕ → List ℕ → ℕ
le_field w at s = le_value (take w (drop at s))
