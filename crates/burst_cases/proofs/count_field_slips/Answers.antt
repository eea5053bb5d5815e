use native.Mathlib.Omega.{arith}
use Rattle.burst_cases.proofs.count_field_slips.Goals as goal

-- `count_field_slips` meets its contract: it counts at most one for each way. Assumes nothing.
pub loop-bits-init : goal.loop-bits-init
loop-bits-init c = (omega arith, omega arith)

pub loop-bits-preserved : goal.loop-bits-preserved
loop-bits-preserved c = (omega arith, omega arith)
