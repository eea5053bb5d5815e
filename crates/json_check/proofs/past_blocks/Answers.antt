use native.Mathlib.Omega.{arith}
use Rattle.json_check.proofs.Bare.{run_none, run_join}
use Rattle.json_check.proofs.past_blocks.Goals as goal

-- `json_check::past_blocks` meets its contract: what was passed is bare.
pub loop-i-init : goal.loop-i-init
loop-i-init c = (omega arith, omega arith, run_none _ _ _ (omega arith))

pub loop-i-preserved : goal.loop-i-preserved
loop-i-preserved c = let l = c.loop-i in
    (omega arith, omega arith, run_join _ _ _ _ l.invariant.2 (c.odd8.ensures c.if-odd8.false))
