-- The section that the next bytes of an arriving image belong to (FORMAT.md, Check while it arrives). Every definition is total: it also covers
-- states that no run from the fresh state reaches.
use Rattle.std.specs.Prelude.{ℕ, zero, suc, ◌+◌, ◌-◌, ◌*◌, min, not, List, ltb, eqb}
use Rattle.octets.specs.Bytes.{field}
use Rattle.octets.specs.Logic.{choose}
use Rattle.eif.specs.Numbers.{place_count, size_limit}
use Rattle.eif.specs.Layout.{header_size, section_header_size, offset_at, size_at, count_of}
use Rattle.arriving.specs.declared.Arriving.{Arriving}
use Rattle.arriving_sections.specs.declared.Span.{Span}

-- n bytes that are no section's data: bytes of the file's header, of a section's own header, or after the last section in order. The first
-- `begun` sections have begun.
abbrev pub none_for : ℕ → ℕ → Span
none_for begun n = record { place = place_count; length = n; begun = begun }

-- n bytes of the data of section i
abbrev pub data_for : ℕ → ℕ → Span
data_for i n = record { place = i; length = n; begun = i + 1 }

-- the type of section i in the sections' own headers that a state keeps; bytes that have not come are zero
abbrev pub kept_kind : List ℕ → ℕ → ℕ
kept_kind headers i = field 2 (section_header_size * i) headers

-- how many places of the table are used
abbrev pub used_places : List ℕ → ℕ
used_places header = min (count_of header) place_count

-- the span of the next n bytes after `taken` bytes, where m sections are left from section i on, which has to begin at `begin`. A section that
-- begins elsewhere by the table, or that would end past the longest image, is refused whatever follows; neither it nor a later section
-- has data.
unfoldable pub span_from : List ℕ → ℕ → ℕ → ℕ → ℕ → ℕ → Span
span_from header zero i begin taken n = none_for i n
span_from header (suc m) i begin taken n =
    let start = begin + section_header_size in
    let end = start + size_at header i in
    choose (not (eqb (offset_at header i) begin)) (none_for i n)
    (choose (ltb size_limit end) (none_for i n)
    (choose (ltb taken start) (none_for i (min n (start - taken)))
    (choose (ltb taken end) (data_for i (min n (end - taken)))
    (span_from header m (suc i) end taken n))))

-- the first of the next n bytes that belong together
unfoldable pub span_of : Arriving → ℕ → Span
span_of a n =
    choose (ltb a.taken header_size) (none_for 0 (min n (header_size - a.taken)))
    (span_from a.header (used_places a.header) 0 header_size a.taken n)
