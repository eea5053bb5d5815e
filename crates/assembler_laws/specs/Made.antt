-- The three records as bytes. Assumes nothing.
use Rattle.std.specs.Prelude.{ℕ, zero, suc, ◌+◌, ◌*◌, List, [], ◌∷◌, ◌++◌, length, take, drop}
use Rattle.octets.specs.Bytes.{le_bytes}
use Rattle.eif.specs.Roll.{head_of}
use Rattle.assembler.specs.Records.{piece_size, number_size, open_kind, piece_kind, close_kind, pieces_of}

abbrev pub open_record : ℕ → List ℕ
open_record n = head_of number_size open_kind ++ le_bytes number_size n

abbrev pub piece_record : ℕ → List ℕ → List ℕ
piece_record start bytes = head_of (number_size + length bytes) piece_kind ++ (le_bytes number_size start ++ bytes)

abbrev pub close_record : List ℕ
close_record = head_of 0 close_kind

-- the piece of a place of m, and the pieces of count places from k on
abbrev pub piece_record_at : List ℕ → ℕ → List ℕ
piece_record_at m k = piece_record (k * piece_size) (take piece_size (drop (k * piece_size) m))

unfoldable pub pieces_from : List ℕ → ℕ → ℕ → List (List ℕ)
pieces_from m zero k = []
pieces_from m (suc count) k = piece_record_at m k ∷ pieces_from m count (suc k)

abbrev pub all_pieces : List ℕ → List (List ℕ)
all_pieces m = pieces_from m (pieces_of (length m)) 0
