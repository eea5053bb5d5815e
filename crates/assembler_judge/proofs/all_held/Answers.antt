use mathlib.Core.Path.{refl, ◌∙◌}
use native.Mathlib.Omega.{arith}
use Rattle.assembler_judge.proofs.Tests.{held_step, held_gap, held_end}
use Rattle.assembler_judge.proofs.all_held.Goals as goal

-- `assembler_judge::all_held` meets its contract: the marks from `k` on are all held exactly when all are. Assumes nothing.
pub returns-then-marks-k-eq0 : goal.returns-then-marks-k-eq0
returns-then-marks-k-eq0 c = let l = c.loop-k in
    held_gap c.args.marks.now l.k (omega arith) c.if-marks-k-eq0.true ∙ l.invariant.1

pub loop-k-preserved : goal.loop-k-preserved
loop-k-preserved c = let l = c.loop-k in
    (omega arith, held_step c.args.marks.now l.k (omega arith) c.if-marks-k-eq0.false ∙ l.invariant.1)

pub returns : goal.returns
returns c = let l = c.loop-k in
    held_end c.args.marks.now l.k (omega arith) ∙ l.invariant.1

pub loop-k-init : goal.loop-k-init
loop-k-init c = (omega arith, refl)
