-- The rules that refuse a record, in a state st, with an image buffer x and a mark buffer y, for any values of these.
-- Assumes nothing.
use Rattle.std.specs.Prelude.{ℕ, Bool, true, not, List, [], ◌∷◌, ltb, eqb, length, take, drop, get_or}
use Rattle.eif.specs.Numbers.{size_limit, image_too_long, piece_record_wrong, piece_out_of_turn, buffer_too_short, piece_differs, piece_missing}
use Rattle.octets.specs.Logic.{both, either, choose}
use Rattle.octets.specs.Same.{same_bytes}
use Rattle.assembler.specs.Records.{number_in, data_in, is_open, is_piece, is_close, formed, pieces_of, off_grid, place_in}
use Rattle.assembler.specs.declared.State.{State}

-- ---- 23: open when open, or another kind when not open

abbrev pub is_opened : State → Bool
is_opened st = not (eqb st.opened 0)

abbrev pub out_of_turn : State → List ℕ → Bool
out_of_turn st r = choose (is_open r) (is_opened st) (not (is_opened st))

-- ---- 22 again: a piece that is none of the open image's

abbrev pub misplaced : State → List ℕ → Bool
misplaced st r = both (is_piece r) (off_grid st.length (number_in r) (length (data_in r)))

-- ---- 1: an image length over the limit

abbrev pub too_long : List ℕ → Bool
too_long r = both (is_open r) (ltb size_limit (number_in r))

-- ---- 24: a buffer too short for the image or its marks, or shorter than at open

-- buffers of these lengths, for an image of n bytes
unfoldable pub too_small : ℕ → ℕ → ℕ → Bool
too_small n image marks = either (ltb image n) (ltb marks (pieces_of n))

unfoldable pub shorter_than_at_open : State → ℕ → ℕ → Bool
shorter_than_at_open st image marks = either (ltb image st.room) (ltb marks st.places)

-- for a piece and for a close
abbrev pub short_for : State → ℕ → ℕ → Bool
short_for st image marks = either (shorter_than_at_open st image marks) (too_small st.length image marks)

abbrev pub too_short : State → List ℕ → List ℕ → List ℕ → Bool
too_short st r x y =
    choose (is_open r) (too_small (number_in r) (length x) (length y)) (short_for st (length x) (length y))

-- ---- 25: a piece already held with other bytes

-- any mark but 0 is held
abbrev pub is_held : List ℕ → List ℕ → Bool
is_held r y = not (eqb (get_or y (place_in r) 0) 0)

-- the bytes that stand where a record's piece belongs
abbrev pub standing : List ℕ → List ℕ → List ℕ
standing r x = take (length (data_in r)) (drop (number_in r) x)

abbrev pub held_with_other : List ℕ → List ℕ → List ℕ → Bool
held_with_other r x y = both (is_held r y) (not (same_bytes (standing r x) (data_in r)))

abbrev pub differs : List ℕ → List ℕ → List ℕ → Bool
differs r x y = both (is_piece r) (held_with_other r x y)

-- ---- 26: close with a piece missing

-- no mark is 0
unfoldable pub all_held : List ℕ → Bool
all_held [] = true
all_held (m ∷ ms) = both (not (eqb m 0)) (all_held ms)

abbrev pub lacks_piece : State → List ℕ → List ℕ → Bool
lacks_piece st r y = both (is_close r) (not (all_held (take (pieces_of st.length) y)))

-- ---- the first rule that applies, in this order; 0: none

unfoldable pub fault_of : State → List ℕ → List ℕ → List ℕ → ℕ
fault_of st r x y =
    choose (not (formed r)) piece_record_wrong
    (choose (out_of_turn st r) piece_out_of_turn
    (choose (misplaced st r) piece_record_wrong
    (choose (too_long r) image_too_long
    (choose (too_short st r x y) buffer_too_short
    (choose (differs r x y) piece_differs
    (choose (lacks_piece st r y) piece_missing
    0))))))
