-- What a whole image leaves in a buffer: packed sections, their data joined in one byte string.
-- Assumes nothing.
use Rattle.std.specs.Prelude.{ℕ, zero, suc, ◌+◌, ◌*◌, ◌-◌, min, List, length, take, drop, get_or, replicate}
use Rattle.eif.specs.Layout.{header_size, section_header_size}
use Rattle.eif_checksum.specs.Put.{with_checksum}
use Rattle.case_images.specs.Build.{with_header, with_section}
use Rattle.case_images.specs.declared.Shape.{Shape}

-- the most sections of a shape
abbrev pub most : ℕ
most = 6

-- a shape with no flags
abbrev pub without_flags : ℕ → ℕ → List ℕ → List ℕ → Shape
without_flags version count kinds lengths =
    record { version = version; flags = 0; count = count; kinds = kinds; own_flags = replicate most 0; lengths = lengths }

-- how many bytes section i has, by the lengths: those that are left from a position on, of so many, where these are fewer
abbrev pub size_from : List ℕ → ℕ → ℕ → ℕ → ℕ
size_from lengths size from i = min (get_or lengths i 0) (size - from)

-- where the data of section i starts in the byte string, which has so many bytes
unfoldable pub start_of : List ℕ → ℕ → ℕ → ℕ
start_of lengths size zero = 0
start_of lengths size (suc i) = start_of lengths size i + size_from lengths size (start_of lengths size i) i

-- where section i stands, whose data starts at a position of the byte string
abbrev pub packed_from : ℕ → ℕ → ℕ
packed_from from i = header_size + section_header_size * i + from

-- section i over what stands there, its data from a position on
abbrev pub with_part : List ℕ → List ℕ → List ℕ → List ℕ → List ℕ → ℕ → ℕ → List ℕ
with_part s kinds flags lengths bytes from i =
    with_section s i (packed_from from i) (get_or kinds i 0) (get_or flags i 0) (take (size_from lengths (length bytes) from i) (drop from bytes))

-- the first sections, by their types, their flags and the lengths of their data
unfoldable pub with_sections : List ℕ → List ℕ → List ℕ → List ℕ → List ℕ → ℕ → List ℕ
with_sections s kinds flags lengths bytes zero = s
with_sections s kinds flags lengths bytes (suc i) =
    with_part (with_sections s kinds flags lengths bytes i) kinds flags lengths bytes (start_of lengths (length bytes) i) i

-- where the last section of a shape ends
abbrev pub end_of : Shape → ℕ → ℕ
end_of shape size = packed_from (start_of shape.lengths size (min shape.count most)) (min shape.count most)

-- header and sections
abbrev pub without_checksum : List ℕ → Shape → List ℕ → List ℕ
without_checksum s shape bytes =
    with_sections (with_header s shape.version shape.flags shape.count) shape.kinds shape.own_flags shape.lengths bytes
    (min shape.count most)

-- these and the checksum of the image, which is the first bytes of the buffer
abbrev pub with_image : List ℕ → Shape → List ℕ → List ℕ
with_image s shape bytes = with_checksum (without_checksum s shape bytes) (min (end_of shape (length bytes)) (length s))
