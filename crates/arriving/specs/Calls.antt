-- What each call of the arriving reader makes of a state, and its answer (FORMAT.md, Check while it arrives).
-- Every definition is for any state whatever, also for one that no run from the fresh one reaches.
-- Assumes nothing.
use Rattle.std.specs.Prelude.{ℕ, zero, suc, ◌+◌, ◌-◌, ◌*◌, min, List, eqb, length, take, drop}
use Rattle.std.specs.Int.Bits.{bit_xor}
use Rattle.octets.specs.Over.{over}
use Rattle.crc32.specs.Crc.{crc_from, ones32}
use Rattle.eif.specs.Numbers.{place_count}
use Rattle.octets.specs.Logic.{choose}
use Rattle.eif.specs.Layout.{section_header_size, View}
use Rattle.eif.specs.Reading.{read_view}
use Rattle.eif.specs.declared.Reading.{Reading}
use Rattle.eif_judge.specs.Kept.{view_from}
use Rattle.arriving.specs.State.{kept_from, checked_after, count_limit}
use Rattle.arriving.specs.declared.Arriving.{Arriving}
use Rattle.arriving.specs.declared.Fed.{Fed}
use Rattle.arriving.specs.declared.Finished.{Finished}

-- ---- a piece more

-- the twelve bytes at a place that are kept of the file from a position on, after a piece that comes after n bytes: those that are
-- held stay, and the bytes of the piece before that position are left out
unfoldable pub kept_over : List ℕ → ℕ → ℕ → ℕ → List ℕ → List ℕ
kept_over headers at from n piece = over headers (at + (n - from)) (take (section_header_size - (n - from)) (drop (from - n) piece))

-- the same for m places from place i on
unfoldable pub headers_over : List ℕ → ℕ → List ℕ → ℕ → ℕ → List ℕ → List ℕ
headers_over header n piece zero i headers = headers
headers_over header n piece (suc m) i headers =
    headers_over header n piece m (suc i) (kept_over headers (section_header_size * i) (kept_from header i) n piece)

-- the state after bytes for which the counter has room; the header is filled first, so that its table is known
unfoldable pub grown : Arriving → List ℕ → Arriving
grown a piece =
    let header = over a.header a.taken piece in
    record {
      taken = a.taken + length piece;
      header = header;
      headers = headers_over header a.taken piece place_count 0 a.headers;
      checksum = crc_from a.checksum (checked_after a.taken piece);
      ended = a.ended;
    }

-- the answer to a piece: the state after it, and how many of its bytes were taken
abbrev pub fed_with : Arriving → ℕ → Fed
fed_with state count = record { state = state; count = count }

-- a piece with an allowance: until the end is told, the lesser of the allowance and the piece's length is taken; after it, nothing
unfoldable pub fed : Arriving → List ℕ → ℕ → Fed
fed a piece allowance =
    choose (eqb a.ended 0)
    (fed_with (grown a (take (count_limit - a.taken) (take allowance piece))) (min allowance (length piece)))
    (fed_with a 0)

-- ---- the end

abbrev pub view_in : Arriving → View
view_in a = view_from a.header a.headers a.taken

-- the reading of what was kept, by the rules of the whole reader
unfoldable pub answer_of : Arriving → Reading
answer_of a = read_view (view_in a) (bit_xor ones32 a.checksum)

-- the state once the end is told
unfoldable pub told_end : Arriving → Arriving
told_end a = record { taken = a.taken; header = a.header; headers = a.headers; checksum = a.checksum; ended = 1 }

unfoldable pub finished : Arriving → Finished
finished a = record { state = told_end a; reading = answer_of a }
