use mathlib.Core.Path.{refl}
use native.Mathlib.Omega.{arith}
use Rattle.json_check.proofs.Bare.{run_more}
use Rattle.json_check.proofs.past_bare.Goals as goal

-- `json_check::past_bare` meets its contract: what was passed is bare.
pub loop-i-preserved : goal.loop-i-preserved
loop-i-preserved c = let l = c.loop-i in (omega arith, run_more _ _ _ _ l.invariant.1 (c.odd.ensures c.if-odd.false) refl)
