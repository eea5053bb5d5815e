-- How many pieces of the input the program reads at most.
use Rattle.std.specs.Prelude.{ℕ, ◌-◌, ◌*◌, ◌<◌, ◌≤◌}
use Rattle.eif.specs.Numbers.{size_limit}

-- the bytes of a full piece
abbrev pub piece_bytes : ℕ
piece_bytes = 32768

-- n full pieces are longer than the longest image, and one piece fewer is not
pub record FirstPastLimit (n : ℕ) : Type 0 where
  pub past : size_limit < n * piece_bytes
  pub first : (n - 1) * piece_bytes ≤ size_limit
