-- The list of a roll, said from its records alone, what such a list points at, and a roll with its heads taken out.
-- Assumes nothing.
use Rattle.std.specs.Prelude.{ℕ, ◌+◌, List, [], ◌∷◌, length, take, drop}
use Rattle.eif.specs.Table.{in_table}
use Rattle.octets.specs.Lists.{joined_by}
use Rattle.eif.specs.Roll.{Record, record_head_size, flags_record_size, blank_record, accepted_roll, read_roll}
use Rattle.eif.specs.Stream.{kept}
use Rattle.eif.specs.declared.Stream.{Stream}
use Rattle.eif.specs.declared.RollRecord.{RollRecord}
use Rattle.eif.specs.declared.RollReading.{RollReading}

-- the records of a roll from a position on: the type, the position of the data, right after the head, and its length
abbrev pub list_from : ℕ → List Record → List RollRecord
list_from at [] = []
list_from at (r ∷ rs) =
    record { kind = r.kind; position = record { 0 = at + record_head_size }; length = record { 0 = length r.bytes } }
    ∷ list_from (at + record_head_size + length r.bytes) rs

-- the answer: the flags, the number of records, and their list from the end of the flags record on, unused places blank
abbrev pub listing_of : ℕ → List Record → RollReading
listing_of flags rs = accepted_roll flags (length rs) (in_table blank_record (list_from flags_record_size rs))

-- the type that a list gives, and the bytes of a roll that it points at
abbrev pub found_in : List ℕ → RollRecord → Record
found_in t x = record { kind = x.kind; bytes = take x.length.0 (drop x.position.0 t) }

-- ---- a roll with its heads taken out

-- the bytes of a roll that an entry of a list points at
abbrev pub bytes_at : List ℕ → RollRecord → List ℕ
bytes_at t x = (found_in t x).bytes

-- the entries that the roll's reader lists
abbrev pub entries_of : List ℕ → List RollRecord
entries_of t = take (read_roll t).count (read_roll t).records

-- what entries point at, joined
abbrev pub joined_at : List ℕ → List RollRecord → List ℕ
joined_at t l = joined_by (bytes_at t) l

-- all of it; and what a stream keeps of it
unfoldable pub without_heads : List ℕ → List ℕ
without_heads t = joined_at t (entries_of t)

unfoldable pub stream_in_roll : Stream → List ℕ → List ℕ
stream_in_roll stream t = joined_at t (kept stream (λ x. x.kind) 0 (entries_of t))
