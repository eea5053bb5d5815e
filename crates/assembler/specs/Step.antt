-- What one record does to the state, the image buffer and the mark buffer (FORMAT.md, Pieces out of order). Assumes nothing.
use Rattle.std.specs.Prelude.{ℕ, List, eqb, length, set, replicate}
use Rattle.octets.specs.Over.{over}
use Rattle.octets.specs.Logic.{choose}
use Rattle.eif.specs.Answers.{refuse}
use Rattle.eif.specs.declared.Verdict.{Verdict}
use Rattle.eif.specs.declared.Verdict.TheVariants.{Accepted}
use Rattle.assembler.specs.Records.{number_in, data_in, is_open, is_piece, pieces_of, place_in}
use Rattle.assembler.specs.Rules.{is_held, fault_of}
use Rattle.assembler.specs.declared.State.{State}
use Rattle.assembler.specs.declared.Stepped.{Stepped}

-- ---- states

abbrev pub state_with : ℕ → ℕ → ℕ → ℕ → State
state_with opened size room places = record { opened = opened; length = size; room = room; places = places }

-- before any call, and after a close
abbrev pub fresh_state : State
fresh_state = state_with 0 0 0 0

-- open for an image of n bytes, with buffers of these lengths
abbrev pub open_state : ℕ → ℕ → ℕ → State
open_state n room places = state_with 1 n room places

-- ---- the answer

abbrev pub stepped : Verdict → State → ℕ → Stepped
stepped verdict state size = record { verdict = verdict; state = state; length = size }

-- an open is remembered with both buffers' lengths; a close reports the image length
abbrev pub accepted_step : State → List ℕ → ℕ → ℕ → Stepped
accepted_step st r image marks =
    choose (is_open r) (stepped Accepted (open_state (number_in r) image marks) 0)
    (choose (is_piece r) (stepped Accepted st 0)
    (stepped Accepted fresh_state st.length))

-- beside a refusal the state is as it was
unfoldable pub step_answer : State → List ℕ → List ℕ → List ℕ → Stepped
step_answer st r x y =
    choose (eqb (fault_of st r x y) 0) (accepted_step st r (length x) (length y))
    (stepped (refuse (fault_of st r x y) 0) st 0)

-- ---- the image buffer: a piece taken writes its bytes, a repeat changes nothing, and no other byte changes

abbrev pub piece_written : List ℕ → List ℕ → List ℕ → List ℕ
piece_written r x y = choose (is_held r y) x (over x (number_in r) (data_in r))

unfoldable pub image_after : State → List ℕ → List ℕ → List ℕ → List ℕ
image_after st r x y =
    choose (eqb (fault_of st r x y) 0)
    (choose (is_piece r) (piece_written r x y) x)
    x

-- ---- the mark buffer: an open zeroes its pieces' marks, and a piece taken writes mark 1

abbrev pub piece_marked : List ℕ → List ℕ → List ℕ
piece_marked r y = choose (is_held r y) y (set y (place_in r) 1)

unfoldable pub marks_after : State → List ℕ → List ℕ → List ℕ → List ℕ
marks_after st r x y =
    choose (eqb (fault_of st r x y) 0)
    (choose (is_open r) (over y 0 (replicate (pieces_of (number_in r)) 0))
    (choose (is_piece r) (piece_marked r y) y))
    y
