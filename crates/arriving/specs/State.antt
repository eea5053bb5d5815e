-- What the arriving reader keeps: a function of the bytes taken so far (FORMAT.md, Check while it arrives).
-- Assumes nothing.
use Rattle.std.specs.Prelude.{ℕ, zero, suc, ◌-◌, ◌^◌, max, List, [], ◌∷◌, ◌++◌, length, take, drop}
use Rattle.eif.specs.Table.{join_from}
use Rattle.crc32.specs.Crc.{crc_from, ones32}
use Rattle.eif.specs.Numbers.{place_count}
use Rattle.eif.specs.Layout.{header_size, section_header_size, checksum_at, checksum_end, offset_at}
use Rattle.eif.specs.Reading.{checked_bytes}
use Rattle.arriving.specs.declared.Arriving.{Arriving}

-- the first n bytes of a string, and zeros where it has fewer
unfoldable pub padded : ℕ → List ℕ → List ℕ
padded zero s = []
padded (suc n) [] = 0 ∷ padded n []
padded (suc n) (b ∷ s) = b ∷ padded n s

-- ---- the sections' own headers

-- where that of section i is kept from: its offset in the table, but not before the end of the file's header. An offset before
-- that is refused whatever stands there, and an entry of the table is known only once the header is whole.
unfoldable pub kept_from : List ℕ → ℕ → ℕ
kept_from header i = max header_size (offset_at header i)

-- as much of it as has come
abbrev pub header_in : List ℕ → List ℕ → ℕ → List ℕ
header_in header s i = padded section_header_size (drop (kept_from header i) s)

-- all of them, one after the other
unfoldable pub headers_of : List ℕ → List ℕ → List ℕ
headers_of header s = join_from (header_in header s) place_count 0

-- ---- the checksum

-- of bytes that come after n others, those that the checksum is over: all but the checksum's own of the file
abbrev pub checked_after : ℕ → List ℕ → List ℕ
checked_after n s = take (checksum_at - n) s ++ drop (checksum_end - n) s

-- ---- the state

-- of bytes that the counter can count
unfoldable pub kept_of : List ℕ → Arriving
kept_of s =
    record {
      taken = length s;
      header = padded header_size s;
      headers = headers_of (padded header_size s) s;
      checksum = crc_from ones32 (checked_bytes s);
      ended = 0;
    }

-- the largest count: the counter has 64 bits
abbrev pub count_limit : ℕ
count_limit = 2 ^ 64 - 1

-- the state of the bytes taken. Where they are more than the counter can count, it is the state of as many as it can: the counter
-- stops and does not wrap, and bytes further on change nothing. Such a file is too long by far, so its answer is 1 in any case.
unfoldable pub state_of : List ℕ → Arriving
state_of s = kept_of (take count_limit s)
