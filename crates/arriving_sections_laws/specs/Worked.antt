-- Computed sections of the worked example of FORMAT.md (kernel 4b, command line 61, an empty ramdisk) while it arrives, and of the same example
-- with tables that are refused: one gives the kernel the largest size of eight bytes, the other puts the command line too early by one byte.
use Rattle.std.specs.Prelude.{ℕ, ◌≡◌, refl, List, [], ◌∷◌, ◌++◌, map, take, drop, replicate}
use Rattle.octets.specs.Bytes.{field, be_value}
use Rattle.octets.specs.Over.{over}
use Rattle.eif.specs.Worked.{worked_image}
use Rattle.arriving.specs.State.{padded, kept_of, state_of}
use Rattle.arriving.specs.Calls.{grown, fed}
use Rattle.arriving_laws.specs.Runs.{fresh, Turn}
use Rattle.arriving_sections.specs.Span.{span_from, span_of}
use Rattle.arriving_sections.specs.Worked.{hostile_headers}
use Rattle.arriving_sections_laws.specs.Given.{ordered_from, places_in_order, data_so_far, given_in, parts_of}

-- all three sections are in order, none, and the kernel alone
pub ordered_places : map places_in_order (worked_image ∷ hostile_headers) ≡ 3 ∷ 0 ∷ 1 ∷ []
unfolding ordered_from over field be_value
ordered_places = refl

-- the data of kernel and command line after 560, 561, 573, and 574 bytes
pub arrived_data :
    map (λ (n : ℕ). map (data_so_far (take n worked_image)) (0 ∷ 1 ∷ [])) (560 ∷ 561 ∷ 573 ∷ 574 ∷ [])
    ≡ ([] ∷ [] ∷ []) ∷ ((0x4b ∷ []) ∷ [] ∷ []) ∷ ((0x4b ∷ []) ∷ [] ∷ []) ∷ ((0x4b ∷ []) ∷ (0x61 ∷ []) ∷ []) ∷ []
unfolding data_so_far ordered_from field be_value
arrived_data = refl

-- a refused table: a section that is not in order has no data, although the bytes are there
pub hostile_data :
    map (λ (header : List ℕ). map (data_so_far (header ++ drop 548 worked_image)) (0 ∷ 1 ∷ [])) hostile_headers
    ≡ ([] ∷ [] ∷ []) ∷ ((0x4b ∷ []) ∷ [] ∷ []) ∷ []
unfolding data_so_far ordered_from over field be_value
hostile_data = refl

abbrev equal_turns : ℕ → ℕ → List Turn
equal_turns n size = replicate n (record { size = size; allowance = 1000 })

-- the file handed over in turns of up to 300 bytes: eight calls take it, since none takes bytes of two sections
pub given_data :
    map (λ (i : ℕ). given_in i fresh (parts_of fresh worked_image (equal_turns 8 300))) (0 ∷ 1 ∷ 2 ∷ 3 ∷ [])
    ≡ (0x4b ∷ []) ∷ (0x61 ∷ []) ∷ [] ∷ [] ∷ []
unfolding given_in parts_of fed grown state_of kept_of padded over span_of span_from field be_value
given_data = refl
