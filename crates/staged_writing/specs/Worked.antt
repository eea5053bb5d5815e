-- The data that a step of a staged view is lent, by computation, as FORMAT.md (Writing in pieces) has it for any state. The base has an offset of 40 for place
-- 0: own header from 40 on, data 1, 2, 3 from 52 on; the replacement is 6, 7, 8.
use Rattle.std.specs.Prelude.{ℕ, ◌≡◌, refl, List, [], ◌∷◌, ◌++◌, replicate, take}
use Rattle.octets.specs.Bytes.{be_bytes, be_value, field}
use Rattle.staged_writing.specs.StagedWriting.{base_data, whole_data, due_data}
use Rattle.staged_writing.specs.declared.StagedWriting.{StagedWriting}

abbrev small_base : List ℕ
small_base = replicate 28 0 ++ (be_bytes 8 40 ++ (replicate 16 9 ++ (1 ∷ 2 ∷ 3 ∷ [])))

-- a state by its sections begun, its data left and the replaced section's number; place 0 has two bytes
abbrev staged_with : ℕ → ℕ → ℕ → StagedWriting
staged_with begun left replaced =
    record {
      writing = record {
        header_written = 548;
        sections_begun = begun;
        section_left = left;
        data_left = left;
        count = 2;
        places = record { kind = 1; flags = 0; length = record { 0 = 2 } } ∷ [];
        header = [];
        checksum = 0;
      };
      replaced = replaced;
    }

abbrev lent_for : StagedWriting → List ℕ
lent_for a = due_data a small_base (6 ∷ 7 ∷ 8 ∷ [])

-- place 0 if no section is begun, all data where less is left to take than asked; the last byte; the end of the replacement
pub due_in_place : lent_for (staged_with 0 5 7) ∷ lent_for (staged_with 1 1 7) ∷ lent_for (staged_with 1 0 7) ∷ lent_for (staged_with 1 2 0) ∷ lent_for (staged_with 0 9 0) ∷ []
    ≡ (1 ∷ 2 ∷ []) ∷ (2 ∷ []) ∷ [] ∷ (7 ∷ 8 ∷ []) ∷ (6 ∷ 7 ∷ 8 ∷ []) ∷ []
unfolding due_data whole_data base_data be_value field
due_in_place = refl

-- past the places: the replacement where that place is the replaced one, otherwise nothing
pub due_past_places : lent_for (staged_with 33 9 32) ∷ lent_for (staged_with 33 9 31) ∷ lent_for (staged_with 18446744073709551615 9 0) ∷ []
    ≡ (6 ∷ 7 ∷ 8 ∷ []) ∷ [] ∷ [] ∷ []
unfolding due_data whole_data base_data be_value field
due_past_places = refl

-- a base that ends within the entry has the number of the bytes that are there: 3; one that ends before it has 0
pub due_of_a_cut_base :
    due_data (staged_with 1 2 7) (replicate 28 4 ++ (0 ∷ 3 ∷ [])) [] ∷ due_data (staged_with 1 2 7) (take 28 small_base) [] ∷ due_data (staged_with 1 2 7) [] [] ∷ []
    ≡ (4 ∷ 4 ∷ []) ∷ (0 ∷ 0 ∷ []) ∷ [] ∷ []
unfolding due_data whole_data base_data be_value field
due_of_a_cut_base = refl
