-- The layout of an image: what the rules look at, and where it stands (FORMAT.md, The header and Sections).
-- Assumes nothing.
use Rattle.std.specs.Prelude.{ℕ, zero, suc, ◌+◌, ◌*◌, ◌%◌, List, length}
use Rattle.octets.specs.Bytes.{field}

-- ---- sizes and the magic number

abbrev pub header_size : ℕ
header_size = 548

abbrev pub section_header_size : ℕ
section_header_size = 12

-- an entry of a table, of offsets or of sizes
abbrev pub entry_size : ℕ
entry_size = 8

-- 2e 65 69 66
abbrev pub magic_number : ℕ
magic_number = 0x2e656966

-- ---- where the header's fields stand

abbrev pub magic_at : ℕ
magic_at = 0

abbrev pub version_at : ℕ
version_at = 4

abbrev pub header_flags_at : ℕ
header_flags_at = 6

abbrev pub default_mem_at : ℕ
default_mem_at = 8

abbrev pub default_cpus_at : ℕ
default_cpus_at = 16

abbrev pub reserved_at : ℕ
reserved_at = 24

abbrev pub count_at : ℕ
count_at = 26

abbrev pub offsets_at : ℕ
offsets_at = 28

abbrev pub sizes_at : ℕ
sizes_at = 284

abbrev pub reserved_after_at : ℕ
reserved_after_at = 540

abbrev pub checksum_at : ℕ
checksum_at = 544

-- the end of the checksum field, and with it of the header
abbrev pub checksum_end : ℕ
checksum_end = checksum_at + 4

-- ---- where the fields of a section's own header stand in it, after the type

abbrev pub section_flags_at : ℕ
section_flags_at = 2

abbrev pub section_size_at : ℕ
section_size_at = 4

-- ---- sections one after the other

-- where section i starts, packed from the header's end, where sections have these sizes; at their number: how long such an image is
unfoldable pub packed_by : (ℕ → ℕ) → ℕ → ℕ
packed_by sizes zero = header_size
packed_by sizes (suc i) = packed_by sizes i + section_header_size + sizes i

-- ---- what the rules look at

-- A file as the rules see it: its size, the numbers in its header and what each section's own header says.
-- So a reader that sees the file in pieces has the same rules.
pub record View : Type 0 where
  pub size : ℕ
  -- the number of w bytes at a position of the header
  pub header : ℕ → ℕ → ℕ
  -- the type, the flags and the size in the own header of section i
  pub kind : ℕ → ℕ
  pub flags : ℕ → ℕ
  pub own_size : ℕ → ℕ

-- the header's fields
abbrev pub magic : View → ℕ
magic v = v.header 4 magic_at

abbrev pub version : View → ℕ
version v = v.header 2 version_at

abbrev pub header_flags : View → ℕ
header_flags v = v.header 2 header_flags_at

-- their lowest bit
abbrev pub architecture : ℕ → ℕ
architecture flags = flags % 2

abbrev pub default_mem : View → ℕ
default_mem v = v.header 8 default_mem_at

abbrev pub default_cpus : View → ℕ
default_cpus v = v.header 8 default_cpus_at

abbrev pub reserved : View → ℕ
reserved v = v.header 2 reserved_at

-- num_sections
abbrev pub count : View → ℕ
count v = v.header 2 count_at

-- where the entry for section i stands, in the table of offsets or of sizes that starts at a position
abbrev pub entry_at : ℕ → ℕ → ℕ
entry_at at i = at + entry_size * i

-- the tables' entries for section i; an offset points at the section's own header, a size counts the data only
abbrev pub offset_entry : (ℕ → ℕ → ℕ) → ℕ → ℕ
offset_entry header i = header entry_size (entry_at offsets_at i)

abbrev pub offset : View → ℕ → ℕ
offset v i = offset_entry v.header i

abbrev pub table_size : View → ℕ → ℕ
table_size v i = v.header entry_size (entry_at sizes_at i)

abbrev pub reserved_after : View → ℕ
reserved_after v = v.header 4 reserved_after_at

abbrev pub checksum : View → ℕ
checksum v = v.header 4 checksum_at

-- the first byte after section i
abbrev pub end : View → ℕ → ℕ
end v i = offset v i + section_header_size + table_size v i

-- where section i may start: at the end of the header or of the section before
abbrev pub start : View → ℕ → ℕ
start v zero = header_size
start v (suc i) = end v i

-- ---- of a whole file

abbrev pub offset_at : List ℕ → ℕ → ℕ
offset_at s i = offset_entry (λ w at. field w at s) i

-- a section's own header: type, flags, size
abbrev pub kind_at : List ℕ → ℕ → ℕ
kind_at s i = field 2 (offset_at s i) s

abbrev pub flags_at : List ℕ → ℕ → ℕ
flags_at s i = field 2 (offset_at s i + section_flags_at) s

abbrev pub own_size_at : List ℕ → ℕ → ℕ
own_size_at s i = field 8 (offset_at s i + section_size_at) s

abbrev pub view_of : List ℕ → View
view_of s =
    record {
      size = length s;
      header = λ w at. field w at s;
      kind = kind_at s;
      flags = flags_at s;
      own_size = own_size_at s;
    }

abbrev pub version_of : List ℕ → ℕ
version_of s = version (view_of s)

abbrev pub header_flags_of : List ℕ → ℕ
header_flags_of s = header_flags (view_of s)

abbrev pub count_of : List ℕ → ℕ
count_of s = count (view_of s)

abbrev pub size_at : List ℕ → ℕ → ℕ
size_at s = table_size (view_of s)

abbrev pub end_at : List ℕ → ℕ → ℕ
end_at s = end (view_of s)

abbrev pub start_at : List ℕ → ℕ → ℕ
start_at s = start (view_of s)
