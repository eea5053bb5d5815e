use mathlib.Core.Path.{refl, sym, ◌∙◌}
use native.Mathlib.Omega.{arith}
use Rattle.json_check.proofs.Laws.{walk_start, walk_on, walk_fault, walk_text, walk_short}
use Rattle.json_check.proofs.walk.Goals as goal

-- `json_check::walk` meets its contract: the rest from here gives the verdict of the whole. Assumes nothing.
pub loop-i-init : goal.loop-i-init
loop-i-init c = (omega arith, omega arith, walk_start c.args.text.now)

pub returns-in_default : goal.returns-in_default
returns-in_default c = let l = c.loop-i in
    walk_fault _ _ l.state.mode l.state.stack l.i l.invariant.2 c.loop-i-test.true c.act-entry.result _ _ c.act-entry.ensures refl refl c.in_default.ensures

pub loop-i-preserved : goal.loop-i-preserved
loop-i-preserved c = let l = c.loop-i in
    let to = c.in-Some.to in
    let t = c.in-Some.ensures in
    let o = c.onward-i.ensures in (
      o.1,
      t.2,
      o.2 to.stack
          ∙ walk_on _ _ l.state.mode l.state.stack l.i l.invariant.2 c.loop-i-test.true c.act-entry.result
          to.mode to.stack c.act-entry.ensures t.0 t.1 (λ e. omega (arith, t.2)),
    )

pub returns-then-ends : goal.returns-then-ends
returns-then-ends c = let l = c.loop-i in
    walk_text _ _ l.state.mode l.state.stack l.i l.invariant.2 c.loop-i-test.false (sym c.ends.ensures ∙ c.if-ends.true)

pub returns : goal.returns
returns c = let l = c.loop-i in
    walk_short _ _ l.state.mode l.state.stack l.i l.invariant.2 c.loop-i-test.false (sym c.ends.ensures ∙ c.if-ends.false)
