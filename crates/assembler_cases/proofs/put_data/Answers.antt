use mathlib.Core.Path.{refl}
use native.Mathlib.Omega.{arith}
use lib.ListN.{length-set}
use Rattle.assembler_cases.proofs.put_data.Goals as goal

-- `assembler_cases::put_data` is safe and ends: the place is within the slice, which keeps its length. Assumes nothing.
pub loop-i-init : goal.loop-i-init
loop-i-init c = (omega arith, refl)

pub loop-i-smaller : goal.loop-i-smaller
loop-i-smaller c = simp length-set (omega arith)

pub loop-i-preserved : goal.loop-i-preserved
loop-i-preserved c = (simp length-set (omega arith), simp length-set c.loop-i.invariant.1)
