-- The three records as bytes, the pieces of an image, and each refusal of a record and the records that are taken, for an image of the one byte
-- 61, by computation. Numbers are written out, as FORMAT.md prints them.
-- Assumes nothing.
use Rattle.std.specs.Prelude.{ℕ, true, false, ◌≡◌, refl, List, [], ◌∷◌, ◌++◌, map, replicate}
use Rattle.assembler_laws.specs.Made.{open_record, piece_record, close_record}
use Rattle.octets.specs.Bytes.{le_field}
use Rattle.eif.specs.Answers.{refuse}
use Rattle.eif.specs.Roll.{head_of}
use Rattle.eif.specs.declared.Verdict.{Verdict}
use Rattle.eif.specs.declared.Verdict.TheVariants.{Accepted}
use Rattle.octets.specs.Over.{over}
use Rattle.octets.specs.Same.{same_bytes}
use Rattle.assembler.specs.Records.{formed, pieces_of, off_grid}
use Rattle.assembler.specs.Rules.{too_small, shorter_than_at_open, all_held, fault_of}
use Rattle.assembler.specs.Step.{step_answer, image_after, marks_after}
use Rattle.assembler.specs.declared.State.{State}
use Rattle.assembler.specs.declared.Stepped.{Stepped}

-- those of FORMAT.md for an image of 4,097 bytes 61
pub records_written :
    open_record 4097 ∷ piece_record 0 (replicate 4096 0x61) ∷ piece_record 4096 (0x61 ∷ []) ∷ close_record ∷ []
    ≡ (0x08 ∷ replicate 7 0 ++ 0x01 ∷ 0 ∷ 0x01 ∷ 0x10 ∷ replicate 6 0)
    ∷ (0x08 ∷ 0x10 ∷ replicate 6 0 ++ 0x02 ∷ 0 ∷ replicate 8 0 ++ replicate 4096 0x61)
    ∷ (0x09 ∷ replicate 7 0 ++ 0x02 ∷ 0 ∷ 0 ∷ 0x10 ∷ replicate 6 0 ++ 0x61 ∷ [])
    ∷ (replicate 8 0 ++ 0x03 ∷ 0 ∷ []) ∷ []
unfolding head_of
records_written = refl

-- how many pieces an image has; and of a start and a length whether they are those of no piece: both pieces of an image, and the last of another;
-- a start at no multiple of 4,096, a length one short and one more, a start at the image's length
pub grid_holds :
    (map pieces_of (0 ∷ 1 ∷ 4096 ∷ 4097 ∷ 8192 ∷ 8193 ∷ []) ≡ 0 ∷ 1 ∷ 1 ∷ 2 ∷ 2 ∷ 3 ∷ [])
    × (off_grid 4097 0 4096 ∷ off_grid 4097 4096 1 ∷ off_grid 8192 4096 4096
    ∷ off_grid 8192 2048 4096 ∷ off_grid 8192 4096 4095 ∷ off_grid 8192 0 4097 ∷ off_grid 4096 4096 0 ∷ []
    ≡ false ∷ false ∷ false ∷ true ∷ true ∷ true ∷ true ∷ [])
unfolding off_grid
grid_holds = (refl, refl)

-- a call, and its verdict
pub record WorkedStep : Type 0 where
  pub state : State
  pub sent : List ℕ
  pub image : List ℕ
  pub marks : List ℕ
  pub verdict : Verdict

abbrev worked_step : State → List ℕ → List ℕ → List ℕ → Verdict → WorkedStep
worked_step state sent image marks verdict = record { state = state; sent = sent; image = image; marks = marks; verdict = verdict }

abbrev not_open : State
not_open = record { opened = 0; length = 0; room = 0; places = 0 }

abbrev open_for_one : State
open_for_one = record { opened = 1; length = 1; room = 1; places = 1 }

-- no record, a close that has a byte more than its head says and one whose head says so too, a kind that there is not, an open a byte too
-- long and a piece without its start; a close and a piece while none is open, an open while one is; a start at the image's length, and a piece
-- longer than the image; an image that is too long, and the longest; no room for the image, nor for its mark, nor as much as at open; a piece
-- that is held with another byte, its mark 1 and 7; a close with a piece missing; and what is taken
abbrev pub worked_steps : List WorkedStep
worked_steps =
    worked_step not_open [] [] [] (refuse 22 0)
    ∷ worked_step open_for_one (close_record ++ 0 ∷ []) (0x61 ∷ []) (1 ∷ []) (refuse 22 0)
    ∷ worked_step open_for_one (head_of 1 3 ++ 0 ∷ []) (0x61 ∷ []) (1 ∷ []) (refuse 22 0)
    ∷ worked_step open_for_one (head_of 0 4) (0x61 ∷ []) (1 ∷ []) (refuse 22 0)
    ∷ worked_step not_open (head_of 9 1 ++ replicate 9 0) [] [] (refuse 22 0)
    ∷ worked_step not_open (head_of 7 2 ++ replicate 7 0) [] [] (refuse 22 0)
    ∷ worked_step not_open close_record (0 ∷ []) (0 ∷ []) (refuse 23 0)
    ∷ worked_step not_open (piece_record 0 (0x61 ∷ [])) (0 ∷ []) (0 ∷ []) (refuse 23 0)
    ∷ worked_step open_for_one (open_record 1) (0 ∷ []) (0 ∷ []) (refuse 23 0)
    ∷ worked_step open_for_one (piece_record 1 (0x61 ∷ [])) (0 ∷ []) (0 ∷ []) (refuse 22 0)
    ∷ worked_step open_for_one (piece_record 0 (0x61 ∷ 0x61 ∷ [])) (0 ∷ []) (0 ∷ []) (refuse 22 0)
    ∷ worked_step not_open (open_record 1073741825) [] [] (refuse 1 0)
    ∷ worked_step not_open (open_record 1073741824) [] [] (refuse 24 0)
    ∷ worked_step not_open (open_record 1) [] (0 ∷ []) (refuse 24 0)
    ∷ worked_step not_open (open_record 1) (0 ∷ []) [] (refuse 24 0)
    ∷ worked_step (record { opened = 1; length = 1; room = 2; places = 1 }) close_record (0x61 ∷ []) (1 ∷ []) (refuse 24 0)
    ∷ worked_step open_for_one (piece_record 0 (0x62 ∷ [])) (0x61 ∷ []) (1 ∷ []) (refuse 25 0)
    ∷ worked_step open_for_one (piece_record 0 (0x62 ∷ [])) (0x61 ∷ []) (7 ∷ []) (refuse 25 0)
    ∷ worked_step open_for_one close_record (0 ∷ []) (0 ∷ []) (refuse 26 0)
    ∷ worked_step not_open (open_record 1) (0 ∷ []) (7 ∷ []) Accepted
    ∷ worked_step open_for_one (piece_record 0 (0x61 ∷ [])) (0 ∷ []) (0 ∷ []) Accepted
    ∷ worked_step open_for_one (piece_record 0 (0x61 ∷ [])) (0x61 ∷ []) (7 ∷ []) Accepted
    ∷ worked_step open_for_one close_record (0x61 ∷ []) (1 ∷ []) Accepted
    ∷ worked_step open_for_one close_record (0x61 ∷ []) (7 ∷ []) Accepted
    ∷ []

pub steps_hold :
    map (λ (w : WorkedStep). (step_answer w.state w.sent w.image w.marks).verdict) worked_steps
    ≡ map (λ (w : WorkedStep). w.verdict) worked_steps
unfolding head_of step_answer fault_of formed off_grid too_small shorter_than_at_open all_held same_bytes le_field
steps_hold = refl

-- ---- two rules that apply at once, of which the first is answered. No record has both the second 22 and 1, nor both 25 and 26: each is of another
-- kind of record

-- a state that no call leaves: not open, and yet with a length of 1; then two that an open leaves, with a buffer that is longer by one
abbrev not_open_for_one : State
not_open_for_one = record { opened = 0; length = 1; room = 1; places = 1 }

abbrev open_in_longer_image : State
open_in_longer_image = record { opened = 1; length = 1; room = 2; places = 1 }

abbrev open_in_more_marks : State
open_in_more_marks = record { opened = 1; length = 1; room = 1; places = 2 }

-- 22 for the form before 23, an open and a piece; 23 before the second 22, and before 1 and 24, 25 and 26; the second 22 before 24; 1 before 24; 24
-- before 25 and before 26, for the image buffer and for the mark buffer; and 24 alone for a mark buffer that is shorter than at the open
abbrev pub ordered_steps : List WorkedStep
ordered_steps =
    worked_step open_for_one (head_of 9 1 ++ replicate 9 0) (0 ∷ []) (0 ∷ []) (refuse 22 0)
    ∷ worked_step not_open (head_of 7 2 ++ replicate 7 0) (0 ∷ []) (0 ∷ []) (refuse 22 0)
    ∷ worked_step not_open_for_one (piece_record 1 (0x61 ∷ [])) (0 ∷ []) (0 ∷ []) (refuse 23 0)
    ∷ worked_step open_for_one (open_record 1073741825) (0 ∷ []) (0 ∷ []) (refuse 23 0)
    ∷ worked_step open_for_one (open_record 1) [] [] (refuse 23 0)
    ∷ worked_step not_open_for_one close_record [] [] (refuse 23 0)
    ∷ worked_step not_open_for_one (piece_record 0 (0x62 ∷ [])) (0x61 ∷ []) (1 ∷ []) (refuse 23 0)
    ∷ worked_step not_open_for_one close_record (0x61 ∷ []) (0 ∷ []) (refuse 23 0)
    ∷ worked_step open_for_one (piece_record 1 (0x61 ∷ [])) [] [] (refuse 22 0)
    ∷ worked_step not_open (open_record 1073741825) (0 ∷ []) (0 ∷ []) (refuse 1 0)
    ∷ worked_step open_in_longer_image (piece_record 0 (0x62 ∷ [])) (0x61 ∷ []) (1 ∷ []) (refuse 24 0)
    ∷ worked_step open_in_more_marks (piece_record 0 (0x62 ∷ [])) (0x61 ∷ []) (1 ∷ []) (refuse 24 0)
    ∷ worked_step open_in_longer_image close_record (0x61 ∷ []) (0 ∷ []) (refuse 24 0)
    ∷ worked_step open_in_more_marks close_record (0x61 ∷ []) (0 ∷ []) (refuse 24 0)
    ∷ worked_step open_in_more_marks (piece_record 0 (0x61 ∷ [])) (0 ∷ []) (0 ∷ []) (refuse 24 0)
    ∷ worked_step open_in_more_marks close_record (0x61 ∷ []) (1 ∷ []) (refuse 24 0)
    ∷ []

pub order_holds :
    map (λ (w : WorkedStep). (step_answer w.state w.sent w.image w.marks).verdict) ordered_steps
    ≡ map (λ (w : WorkedStep). w.verdict) ordered_steps
unfolding head_of step_answer fault_of formed off_grid too_small shorter_than_at_open all_held same_bytes le_field
order_holds = refl

-- ---- all that an open, a piece and a close answer and leave, with an image buffer of two bytes and a mark buffer of three

abbrev open_answer : Stepped
open_answer = record { verdict = Accepted; state = record { opened = 1; length = 1; room = 2; places = 3 }; length = 0 }

abbrev close_answer : Stepped
close_answer = record { verdict = Accepted; state = not_open; length = 1 }

pub answers_hold :
    step_answer not_open (open_record 1) (8 ∷ 9 ∷ []) (5 ∷ 6 ∷ 7 ∷ [])
    ∷ step_answer open_answer.state (piece_record 0 (0x61 ∷ [])) (8 ∷ 9 ∷ []) (0 ∷ 6 ∷ 7 ∷ [])
    ∷ step_answer open_answer.state close_record (0x61 ∷ 9 ∷ []) (1 ∷ 6 ∷ 7 ∷ []) ∷ []
    ≡ open_answer ∷ open_answer ∷ close_answer ∷ []
unfolding head_of step_answer fault_of formed off_grid too_small shorter_than_at_open all_held same_bytes le_field
answers_hold = refl

pub buffers_hold :
    image_after not_open (open_record 1) (8 ∷ 9 ∷ []) (5 ∷ 6 ∷ 7 ∷ []) ∷ marks_after not_open (open_record 1) (8 ∷ 9 ∷ []) (5 ∷ 6 ∷ 7 ∷ [])
    ∷ image_after open_answer.state (piece_record 0 (0x61 ∷ [])) (8 ∷ 9 ∷ []) (0 ∷ 6 ∷ 7 ∷ [])
    ∷ marks_after open_answer.state (piece_record 0 (0x61 ∷ [])) (8 ∷ 9 ∷ []) (0 ∷ 6 ∷ 7 ∷ []) ∷ []
    ≡ (8 ∷ 9 ∷ []) ∷ (0 ∷ 6 ∷ 7 ∷ []) ∷ (0x61 ∷ 9 ∷ []) ∷ (1 ∷ 6 ∷ 7 ∷ []) ∷ []
unfolding head_of image_after marks_after fault_of formed off_grid too_small shorter_than_at_open all_held same_bytes le_field over
buffers_hold = refl
