-- Writing an image in pieces: what each call does to a state, and its answer (FORMAT.md, Writing in pieces). Every definition is for any state.
use Rattle.std.specs.Prelude.{ℕ, ◌+◌, ◌-◌, min, Bool, not, List, [], ◌++◌, ltb, leb, eqb, length, take, drop, replicate}
use Rattle.std.specs.Int.Bits.{bit_xor}
use Rattle.octets.specs.Bytes.{be_bytes}
use Rattle.octets.specs.Logic.{choose, either, both}
use Rattle.crc32.specs.Crc.{crc_from, ones32}
use Rattle.eif.specs.Numbers.{place_count, data_length_differs}
use Rattle.eif.specs.Answers.{refuse, beside}
use Rattle.eif.specs.Layout.{header_size, section_header_size}
use Rattle.eif.specs.Table.{join_from}
use Rattle.eif.specs.Plan.{blank_place, place_at, planned_size, data_before, header_bytes, section_header, plan_length}
use Rattle.eif.specs.declared.Place.{Place}
use Rattle.eif.specs.declared.Plan.{Plan}
use Rattle.eif.specs.declared.Verdict.{Verdict}
use Rattle.eif.specs.declared.Verdict.TheVariants.{Accepted}
use Rattle.writing.specs.declared.Writing.{Writing}
use Rattle.writing.specs.declared.Begun.{Begun}
use Rattle.writing.specs.declared.Stepped.{Stepped}
use Rattle.writing.specs.declared.Summed.{Summed}

-- ---- begin

-- the state before the first byte of an accepted plan's image, with a number for the checksum field
unfoldable pub start_writing : Plan → ℕ → Writing
start_writing p field =
    record {
      header_written = 0;
      sections_begun = 0;
      section_left = 0;
      data_left = data_before p.places p.count;
      count = p.count;
      places = p.places;
      header = header_bytes p ++ be_bytes 4 field;
      checksum = crc_from ones32 (header_bytes p);
    }

-- the state of a refused plan, which writes nothing
unfoldable pub empty_writing : Writing
empty_writing =
    record {
      header_written = header_size;
      sections_begun = 0;
      section_left = 0;
      data_left = 0;
      count = 0;
      places = replicate place_count blank_place;
      header = replicate header_size 0;
      checksum = 0;
    }

unfoldable pub writing_begun : Plan → ℕ → Begun
writing_begun p field = record { state = beside (plan_length p).verdict (start_writing p field) empty_writing; written = plan_length p }

-- ---- a step

-- how many sections the state has
abbrev pub sections_in : Writing → ℕ
sections_in a = min a.count place_count

-- the own headers of n sections from section i on
abbrev pub own_headers : List Place → ℕ → ℕ → List ℕ
own_headers l n i = join_from (λ j. section_header (place_at l j)) n i

-- the data that a step writes, with this room
unfoldable pub data_bytes : Writing → List ℕ → ℕ → List ℕ
data_bytes a lent room = take (min a.section_left (min (length lent) room)) lent

unfoldable pub data_step : Writing → List ℕ → ℕ → Stepped
data_step a lent room =
    let n = min a.section_left (min (length lent) room) in
    record {
      state = record {
        header_written = a.header_written;
        sections_begun = a.sections_begun;
        section_left = a.section_left - n;
        data_left = a.data_left - n;
        count = a.count;
        places = a.places;
        header = a.header;
        checksum = crc_from a.checksum (take n lent);
      };
      taken = n;
      written = n;
    }

-- the bytes of the file's header that a step writes
unfoldable pub header_part : Writing → ℕ → List ℕ
header_part a room = take (min (header_size - a.header_written) room) (drop a.header_written a.header)

unfoldable pub header_step : Writing → ℕ → Stepped
header_step a room =
    let n = min (header_size - a.header_written) room in
    record {
      state = record {
        header_written = a.header_written + n;
        sections_begun = a.sections_begun;
        section_left = a.section_left;
        data_left = a.data_left;
        count = a.count;
        places = a.places;
        header = a.header;
        checksum = a.checksum;
      };
      taken = 0;
      written = n;
    }

-- whether a step begins a section: there is one to begin, and room for its own header
unfoldable pub begins_section : Writing → ℕ → Bool
begins_section a room = both (ltb a.sections_begun (sections_in a)) (leb section_header_size room)

-- the own header of that section
unfoldable pub next_header : Writing → List ℕ
next_header a = section_header (place_at a.places a.sections_begun)

unfoldable pub section_step : Writing → Stepped
section_step a =
    record {
      state = record {
        header_written = a.header_written;
        sections_begun = a.sections_begun + 1;
        section_left = planned_size a.places a.sections_begun;
        data_left = a.data_left;
        count = a.count;
        places = a.places;
        header = a.header;
        checksum = crc_from a.checksum (next_header a);
      };
      taken = 0;
      written = section_header_size;
    }

-- the four rows of FORMAT.md: the first that applies decides the answer and the bytes written
unfoldable pub writing_stepped : Writing → List ℕ → ℕ → Stepped
writing_stepped a lent room =
    choose (not (eqb a.section_left 0)) (data_step a lent room)
    (choose (ltb a.header_written header_size) (header_step a room)
    (choose (begins_section a room) (section_step a)
    (record { state = a; taken = 0; written = 0 })))

unfoldable pub step_bytes : Writing → List ℕ → ℕ → List ℕ
step_bytes a lent room =
    choose (not (eqb a.section_left 0)) (data_bytes a lent room)
    (choose (ltb a.header_written header_size) (header_part a room)
    (choose (begins_section a room) (next_header a)
    []))

-- ---- finish

-- 15 where data is missing
unfoldable pub finish_verdict : Writing → Verdict
finish_verdict a = choose (either (eqb a.count 0) (not (eqb a.data_left 0))) (refuse data_length_differs 0) Accepted

-- the remainder goes on over the own headers of the sections that are not begun, and is inverted
unfoldable pub final_checksum : Writing → ℕ
final_checksum a =
    bit_xor ones32 (crc_from a.checksum (own_headers a.places (sections_in a - a.sections_begun) a.sections_begun))

unfoldable pub writing_summed : Writing → Summed
writing_summed a = record { verdict = finish_verdict a; checksum = beside (finish_verdict a) (final_checksum a) 0 }
