use native.Mathlib.Omega.{arith}
use lib.ListN.{length-take}
use Rattle.sha384_cases.proofs.message.Goals as goal

-- `sha384_cases::message` is safe: a third of the bytes is a part of them. Assumes nothing.
pub slice_bounds-fed-end : goal.slice_bounds-fed-end
slice_bounds-fed-end c = simp length-take (omega arith)
