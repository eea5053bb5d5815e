-- What the building functions leave in a buffer, as bytes written over what stood there.
-- Assumes nothing.
use Rattle.std.specs.Prelude.{ℕ, ◌+◌, List, length}
use Rattle.octets.specs.Bytes.{be_bytes}
use Rattle.octets.specs.Over.{over}
use Rattle.eif.specs.Layout.{magic_number, section_header_size, section_flags_at, section_size_at, magic_at, version_at, header_flags_at, count_at, offsets_at, sizes_at, entry_size, entry_at}
use Rattle.eif.specs.declared.Place.{Place}

abbrev pub with_header : List ℕ → ℕ → ℕ → ℕ → List ℕ
with_header s version flags count =
    over (over (over (over s magic_at (be_bytes 4 magic_number)) version_at (be_bytes 2 version)) header_flags_at (be_bytes 2 flags)) count_at (be_bytes 2 count)

abbrev pub with_entry : List ℕ → ℕ → ℕ → ℕ → List ℕ
with_entry s i offset size = over (over s (entry_at offsets_at i) (be_bytes entry_size offset)) (entry_at sizes_at i) (be_bytes entry_size size)

abbrev pub with_own_header : List ℕ → ℕ → ℕ → ℕ → ℕ → List ℕ
with_own_header s at kind flags size = over (over (over s at (be_bytes 2 kind)) (at + section_flags_at) (be_bytes 2 flags)) (at + section_size_at) (be_bytes 8 size)

abbrev pub with_section : List ℕ → ℕ → ℕ → ℕ → ℕ → List ℕ → List ℕ
with_section s i at kind flags bytes =
    over (with_own_header (with_entry s i at (length bytes)) at kind flags (length bytes)) (at + section_header_size) bytes

-- a place of a plan
abbrev pub place_with : ℕ → ℕ → ℕ → Place
place_with kind flags length = record { kind = kind; flags = flags; length = record { 0 = length } }
