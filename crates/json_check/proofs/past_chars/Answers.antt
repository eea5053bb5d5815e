use native.Mathlib.Omega.{arith}
use Rattle.json_check.proofs.Beyond.{above_other, passed_join, passed_run}
use Rattle.json_check.proofs.past_chars.Goals as goal

-- `json_check::past_chars` meets its contract: the bytes that it passes leave the mode as it is.
pub loop-i-init : goal.loop-i-init
loop-i-init c = let e = c.past_run-i.ensures in (e.0, e.1, passed_run _ _ _ e.0 e.1 e.2)

pub loop-i-smaller : goal.loop-i-smaller
loop-i-smaller c = omega (arith, above_other c.wide_char-n.result 0 (omega arith) c.if-n-eq0.false)

pub loop-i-preserved : goal.loop-i-preserved
loop-i-preserved c = let l = c.loop-i in
    let w = c.wide_char-n.ensures in
    let r = c.past_few-i.ensures in
    (omega arith, omega arith, passed_join _ _ _ _ l.invariant.2 (passed_join _ _ _ _ w.1 (passed_run _ _ _ r.0 r.1 r.2)))

pub returns-then-n-eq0 : goal.returns-then-n-eq0
returns-then-n-eq0 c = c.loop-i.invariant

pub returns : goal.returns
returns c = c.loop-i.invariant
