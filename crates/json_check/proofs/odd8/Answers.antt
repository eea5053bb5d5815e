use native.Mathlib.Omega.{arith}
use Rattle.json_check.proofs.Bare.{run_none, run_more, neither}
use Rattle.json_check.proofs.odd8.Goals as goal

-- `json_check::odd8` meets its contract: while nothing odd was found, all bytes so far are bare.
pub loop-k-init : goal.loop-k-init
loop-k-init c e = run_none _ _ _ (omega arith)

pub loop-k-preserved : goal.loop-k-preserved
loop-k-preserved c e =
    let z = neither c.loop-k.bad c.odd-bad.result e in
    run_more _ _ _ _ (c.loop-k.invariant z.0) (c.odd-bad.ensures z.1) (omega arith)
