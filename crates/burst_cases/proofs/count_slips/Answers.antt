use native.Mathlib.Omega.{arith}
use Rattle.burst_cases.proofs.count_slips.Goals as goal

-- `count_slips` meets its contract: it counts at most one for each place. Assumes nothing.
pub loop-k-init : goal.loop-k-init
loop-k-init c = (omega arith, omega arith)

pub loop-k-preserved : goal.loop-k-preserved
loop-k-preserved c = (omega arith, omega arith)
