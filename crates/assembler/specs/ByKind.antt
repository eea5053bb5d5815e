-- The same order for each kind of record, the rules left out that cannot apply to it: what is left after its form and turn. That it is the
-- same order is said by `fault_open`, `fault_piece` and `fault_close` of proofs/Faults.antt. Assumes nothing.
use Rattle.std.specs.Prelude.{ℕ, not, List, ltb, length, take}
use Rattle.eif.specs.Numbers.{size_limit, image_too_long, piece_record_wrong, buffer_too_short, piece_differs, piece_missing}
use Rattle.octets.specs.Logic.{choose}
use Rattle.assembler.specs.Records.{number_in, data_in, pieces_of, off_grid}
use Rattle.assembler.specs.Rules.{too_small, short_for, held_with_other, all_held}
use Rattle.assembler.specs.declared.State.{State}

-- an open for an image of n bytes, with buffers of these lengths
unfoldable pub open_fault : ℕ → ℕ → ℕ → ℕ
open_fault n image marks =
    choose (ltb size_limit n) image_too_long
    (choose (too_small n image marks) buffer_too_short
    0)

unfoldable pub piece_fault : State → List ℕ → List ℕ → List ℕ → ℕ
piece_fault st r x y =
    choose (off_grid st.length (number_in r) (length (data_in r))) piece_record_wrong
    (choose (short_for st (length x) (length y)) buffer_too_short
    (choose (held_with_other r x y) piece_differs
    0))

-- a close, with an image buffer of a length
unfoldable pub close_fault : State → ℕ → List ℕ → ℕ
close_fault st image y =
    choose (short_for st image (length y)) buffer_too_short
    (choose (not (all_held (take (pieces_of st.length) y))) piece_missing
    0)
