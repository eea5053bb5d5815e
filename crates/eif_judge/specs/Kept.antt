-- What only the shape of the readers' code needs: a file as the rules see it in what a reader kept of it. That its reading is the
-- file's is `read_kept` of proofs/Kept.antt.
-- Assumes nothing.
use Rattle.std.specs.Prelude.{ℕ, ◌+◌, ◌*◌, List}
use Rattle.octets.specs.Bytes.{field}
use Rattle.eif.specs.Layout.{section_header_size, section_flags_at, section_size_at, View}

-- the view of a file's header, of the sections' own headers one after the other, and of its size
abbrev pub view_from : List ℕ → List ℕ → ℕ → View
view_from header headers size =
    record {
      size = size;
      header = λ w at. field w at header;
      kind = λ i. field 2 (section_header_size * i) headers;
      flags = λ i. field 2 (section_header_size * i + section_flags_at) headers;
      own_size = λ i. field 8 (section_header_size * i + section_size_at) headers;
    }
