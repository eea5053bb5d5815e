use native.Mathlib.Omega.{arith}
use lib.ListN.{length-take}
use Rattle.sha384_cases.proofs.lengths.Goals as goal

-- `sha384_cases::lengths` meets its contract: it is safe and ends. Assumes nothing.
pub slice_bounds-message-end : goal.slice_bounds-message-end
slice_bounds-message-end c = simp length-take (omega arith)
