use Prim.Native.Nat.{◌+◌}
use native.Mathlib.Omega.{arith}
use Rattle.json_check.proofs.Bare.{run_none, run_more, run_join, run_same}
use Rattle.json_check.proofs.past_few.Goals as goal

-- `json_check::past_few` meets its contract: every byte that it passes stands for itself.
pub loop-k-init : goal.loop-k-init
loop-k-init c = (omega arith, run_none _ _ _ (omega arith))

pub loop-k-preserved : goal.loop-k-preserved
loop-k-preserved c = (omega arith, run_more _ _ _ _ c.loop-k.invariant.1 (c.odd.ensures c.if-odd.false) (omega arith))

pub returns : goal.returns
returns c =
    let e = c.past_blocks.ensures in
    let passed = run_same _ _ _ (c.args.from + 8) c.loop-k.invariant.1 (omega arith) in
    (omega arith, e.1, run_join _ _ _ _ passed e.2)
