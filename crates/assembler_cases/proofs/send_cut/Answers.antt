use mathlib.Core.Path.{sym}
use native.Mathlib.Omega.{arith}
use lib.Seq.{length-take-le}
use Rattle.assembler_cases.proofs.send_cut.Goals as goal

-- `assembler_cases::send_cut` is safe and ends: the parts lie in the buffers. Assumes nothing.
pub slice_bounds-send-end-2 : goal.slice_bounds-send-end-2
slice_bounds-send-end-2 g c = sym (length-take-le _ _ (omega arith))

pub slice_bounds-send-end-4 : goal.slice_bounds-send-end-4
slice_bounds-send-end-4 g c = sym (length-take-le _ _ (omega arith))
