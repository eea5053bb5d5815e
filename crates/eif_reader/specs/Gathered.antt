-- What a reader gathers of an image before it is judged. That the reading of it is the image's reading is `read_parts` of
-- proofs/Headers.antt.
-- Assumes nothing.
use Rattle.std.specs.Prelude.{ℕ, ◌+◌, ◌*◌, ◌<◌, ◌≤◌, ◌≡◌, List, length, take, drop}
use Rattle.eif.specs.Layout.{section_header_size, offset_at}

-- the own headers of the sections before n, one after the other: of each whose offset points at as many bytes of the image
abbrev pub Gathered : List ℕ → List ℕ → ℕ → Type 0
Gathered image headers n =
    (i : ℕ) → i < n → offset_at image i + section_header_size ≤ length image
    → take section_header_size (drop (section_header_size * i) headers) ≡ take section_header_size (drop (offset_at image i) image)
