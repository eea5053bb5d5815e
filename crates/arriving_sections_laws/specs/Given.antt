-- The data of the sections of an arriving image: what has arrived of it, and what a run of calls gives out. Each call gets the state that the
-- call before it left, and hands over at most as many bytes as `next` answered (FORMAT.md, Check while it arrives).
use Rattle.std.specs.Prelude.{ℕ, zero, suc, ◌+◌, List, [], ◌∷◌, ◌++◌, ltb, leb, eqb, take, drop}
use Rattle.octets.specs.Logic.{both, choose}
use Rattle.eif.specs.Numbers.{size_limit}
use Rattle.eif.specs.Layout.{header_size, section_header_size, offset_at, size_at}
use Rattle.eif.specs.Reading.{own_data}
use Rattle.arriving.specs.Calls.{fed}
use Rattle.arriving.specs.declared.Arriving.{Arriving}
use Rattle.arriving.specs.declared.Fed.{Fed}
use Rattle.arriving_laws.specs.Runs.{Turn}
use Rattle.arriving_sections.specs.Span.{used_places, span_of}
use Rattle.arriving_sections.specs.declared.Span.{Span}

-- ---- what has arrived

-- the first section, of m sections from section i on, that does not begin where the one before it ends or would end past the longest image;
-- section i has to begin at `begin`
unfoldable pub ordered_from : List ℕ → ℕ → ℕ → ℕ → ℕ
ordered_from s zero i begin = i
ordered_from s (suc m) i begin =
    let end = begin + section_header_size + size_at s i in
    choose (both (eqb (offset_at s i) begin) (leb end size_limit)) (ordered_from s m (suc i) end) i

-- how many sections are in order, from the first on; in an accepted image, all of them
abbrev pub places_in_order : List ℕ → ℕ
places_in_order s = ordered_from s (used_places s) 0 header_size

-- what has arrived of the data of section i; nothing if the section is not in order
unfoldable pub data_so_far : List ℕ → ℕ → List ℕ
data_so_far s i = choose (ltb i (places_in_order s)) (own_data s i) []

-- ---- runs of calls

-- a call: the piece handed over, and the number of bytes that `next` was asked about before it
pub record Part : Type 0 where
  pub piece : List ℕ
  pub asked : ℕ

abbrev pub span_at : Arriving → Part → Span
span_at a p = span_of a p.asked

abbrev pub fed_part : Arriving → Part → Fed
fed_part a p = fed a p.piece (span_at a p).length

abbrev pub taken_part : Arriving → Part → List ℕ
taken_part a p = take (fed_part a p).count p.piece

unfoldable pub after_parts : Arriving → List Part → Arriving
after_parts a [] = a
after_parts a (p ∷ ps) = after_parts (fed_part a p).state ps

-- the bytes that a run takes
unfoldable pub taken_parts : Arriving → List Part → List ℕ
taken_parts a [] = []
taken_parts a (p ∷ ps) = taken_part a p ++ taken_parts (fed_part a p).state ps

-- the bytes that a run gives out for section i
unfoldable pub given_in : ℕ → Arriving → List Part → List ℕ
given_in i a [] = []
given_in i a (p ∷ ps) = choose (eqb (span_at a p).place i) (taken_part a p) [] ++ given_in i (fed_part a p).state ps

-- ---- a file handed over

-- the call that a turn of arriving_laws makes; its allowance is the number that `next` is asked about
abbrev pub turn_part : List ℕ → Turn → Part
turn_part left t = record { piece = take t.size left; asked = t.allowance }

-- the calls that hand over a file in turns; bytes that a call reports as taken are not handed over again
unfoldable pub parts_of : Arriving → List ℕ → List Turn → List Part
parts_of a left [] = []
parts_of a left (t ∷ ts) =
    let p = turn_part left t in
    p ∷ parts_of (fed_part a p).state (drop (fed_part a p).count left) ts
