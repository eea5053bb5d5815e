-- The records of a transfer (FORMAT.md, Pieces out of order): what their bytes say, the form that they must have, and the pieces of an image.
-- Assumes nothing.
use Rattle.std.specs.Prelude.{ℕ, ◌+◌, ◌-◌, ◌/◌, ◌%◌, min, Bool, not, List, leb, eqb, length, drop}
use Rattle.octets.specs.Bytes.{le_field}
use Rattle.octets.specs.Logic.{both, either, choose}
use Rattle.eif.specs.Roll.{record_head_size, record_length_at, record_type_at}

-- ---- numbers

-- the bytes of every piece but the last
abbrev pub piece_size : ℕ
piece_size = 4096

-- the number after the head: an open's image length, a piece's start
abbrev pub number_size : ℕ
number_size = 8

abbrev pub open_kind : ℕ
open_kind = 1

abbrev pub piece_kind : ℕ
piece_kind = 2

abbrev pub close_kind : ℕ
close_kind = 3

-- ---- what a record says: the head is that of a roll's record, 8-byte length of what follows and 2-byte kind, little-endian

abbrev pub size_in : List ℕ → ℕ
size_in r = le_field 8 record_length_at r

abbrev pub kind_in : List ℕ → ℕ
kind_in r = le_field 2 record_type_at r

-- the image length of an open, the start of a piece
abbrev pub number_in : List ℕ → ℕ
number_in r = le_field number_size record_head_size r

-- the data of a piece, and where it starts in the record
abbrev pub data_at : ℕ
data_at = record_head_size + number_size

abbrev pub data_in : List ℕ → List ℕ
data_in r = drop data_at r

abbrev pub is_open : List ℕ → Bool
is_open r = eqb (kind_in r) open_kind

abbrev pub is_piece : List ℕ → Bool
is_piece r = eqb (kind_in r) piece_kind

abbrev pub is_close : List ℕ → Bool
is_close r = eqb (kind_in r) close_kind

-- ---- the form

-- how much follows the head: an open has its image length, a piece its start and any data, a close nothing
abbrev pub size_fits : ℕ → ℕ → Bool
size_fits kind size =
    choose (eqb kind open_kind) (eqb size number_size)
    (choose (eqb kind piece_kind) (leb number_size size)
    (both (eqb kind close_kind) (eqb size 0)))

-- a whole head, its length that of what follows, and one of the three kinds; start and piece length aside
unfoldable pub formed : List ℕ → Bool
formed r =
    both (leb record_head_size (length r))
    (both (eqb (size_in r) (length r - record_head_size)) (size_fits (kind_in r) (size_in r)))

-- ---- the pieces of an image of n bytes

-- how many there are, and with them marks
abbrev pub pieces_of : ℕ → ℕ
pieces_of n = (n + (piece_size - 1)) / piece_size

-- how long the piece at a start is
abbrev pub piece_size_at : ℕ → ℕ → ℕ
piece_size_at n start = min piece_size (n - start)

-- a start at or past the image length, off the grid, or a wrong piece length
unfoldable pub off_grid : ℕ → ℕ → ℕ → Bool
off_grid n start count =
    either (leb n start) (either (not (eqb (start % piece_size) 0)) (not (eqb count (piece_size_at n start))))

-- the place of a record's piece among the pieces, and of its mark among the marks
abbrev pub place_in : List ℕ → ℕ
place_in r = number_in r / piece_size
