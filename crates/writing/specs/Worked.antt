-- Steps by computation, numbers written out as FORMAT.md (Writing in pieces) has them: which row decides where two apply, and the limits of each.
use Rattle.std.specs.Prelude.{ℕ, ◌≡◌, refl, List, [], ◌∷◌, map}
use Rattle.eif.specs.Plan.{section_header}
use Rattle.eif.specs.declared.Place.{Place}
use Rattle.eif.specs.Answers.{number_of}
use Rattle.writing.specs.Writing.{data_step, data_bytes, header_step, header_part, begins_section, next_header, section_step, writing_stepped, step_bytes, finish_verdict, writing_summed}
use Rattle.writing.specs.declared.Writing.{Writing}

-- a state with two places, of three bytes each
abbrev two_places : List Place
two_places = record { kind = 1; flags = 0; length = record { 0 = 3 } } ∷ record { kind = 2; flags = 7; length = record { 0 = 3 } } ∷ []

abbrev writing_with : ℕ → ℕ → ℕ → ℕ → ℕ → Writing
writing_with header begun left due count =
    record {
      header_written = header;
      sections_begun = begun;
      section_left = left;
      data_left = due;
      count = count;
      places = two_places;
      header = 46 ∷ 101 ∷ [];
      checksum = 0;
    }

-- what a step takes and writes, lent three bytes
abbrev counts : Writing → ℕ → ℕ × ℕ
counts a room = let answer = writing_stepped a (7 ∷ 8 ∷ 9 ∷ []) room in (answer.taken, answer.written)

-- data goes before the header's bytes, these before a section's own header, and that before nothing
pub first_row_decides :
    counts (writing_with 0 0 2 2 2) 20 ∷ counts (writing_with 0 0 0 2 2) 20 ∷ counts (writing_with 547 0 0 2 2) 20 ∷ counts (writing_with 548 0 0 2 2) 20 ∷ counts (writing_with 548 2 0 2 2) 20 ∷ []
    ≡ (2, 2) ∷ (0, 20) ∷ (0, 1) ∷ (0, 12) ∷ (0, 0) ∷ []
unfolding writing_stepped data_step header_step begins_section section_step
first_row_decides = refl

-- data: as much as the section needs, is lent and has room
pub data_limits :
    counts (writing_with 548 1 5 9 2) 20 ∷ counts (writing_with 548 1 5 9 2) 1 ∷ counts (writing_with 548 1 5 9 2) 0 ∷ counts (writing_with 548 1 18446744073709551615 1 2) 20 ∷ []
    ≡ (3, 3) ∷ (1, 1) ∷ (0, 0) ∷ (3, 3) ∷ []
unfolding writing_stepped data_step header_step begins_section section_step
data_limits = refl

-- what is left of section and image after three bytes, the second not below 0
pub data_left :
    (writing_stepped (writing_with 548 1 5 1 2) (7 ∷ 8 ∷ 9 ∷ []) 20).state.section_left ∷ (writing_stepped (writing_with 548 1 5 1 2) (7 ∷ 8 ∷ 9 ∷ []) 20).state.data_left ∷ []
    ≡ 2 ∷ 0 ∷ []
unfolding writing_stepped data_step
data_left = refl

-- an own header needs 12 bytes of room, and a place below the count and below 32
pub section_limits :
    counts (writing_with 548 0 0 0 2) 11 ∷ counts (writing_with 548 0 0 0 2) 12 ∷ counts (writing_with 548 1 0 0 2) 12 ∷ counts (writing_with 548 31 0 0 33) 12 ∷ counts (writing_with 548 32 0 0 33) 12
    ∷ counts (writing_with 549 0 0 0 2) 12 ∷ []
    ≡ (0, 0) ∷ (0, 12) ∷ (0, 12) ∷ (0, 12) ∷ (0, 0) ∷ (0, 12) ∷ []
unfolding writing_stepped data_step header_step begins_section section_step
section_limits = refl

-- the bytes of the second place's own header
pub section_bytes_holds : step_bytes (writing_with 548 1 0 0 2) [] 20 ≡ 0 ∷ 2 ∷ 0 ∷ 7 ∷ 0 ∷ 0 ∷ 0 ∷ 0 ∷ 0 ∷ 0 ∷ 0 ∷ 3 ∷ []
unfolding step_bytes data_bytes header_part begins_section next_header section_header
section_bytes_holds = refl

-- finish: 15 where the plan was refused (count 0) or data is missing
pub finish_numbers :
    map (λ a. number_of (writing_summed a).verdict) (writing_with 548 2 0 0 2 ∷ writing_with 548 2 0 1 2 ∷ writing_with 548 0 0 0 0 ∷ writing_with 548 0 0 1 0 ∷ [])
    ≡ 0 ∷ 15 ∷ 15 ∷ 15 ∷ []
unfolding writing_summed finish_verdict
finish_numbers = refl

-- the section begun needs three bytes then, and the next place follows
pub section_after :
    (writing_stepped (writing_with 548 1 0 0 2) [] 20).state.section_left ∷ (writing_stepped (writing_with 548 1 0 0 2) [] 20).state.sections_begun ∷ []
    ≡ 3 ∷ 2 ∷ []
unfolding writing_stepped begins_section section_step
section_after = refl
