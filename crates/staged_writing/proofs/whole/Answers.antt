use Prim.Native.Nat.{◌-◌}
use mathlib.Core.Path.{◌≡◌, ap, ◌∙◌}
use native.Mathlib.Omega.{arith}
use Rattle.staged_writing.specs.StagedWriting.{base_data}
use Rattle.staged_writing.proofs.Begun.{whole_replaced, whole_kept}
use Rattle.staged_writing.proofs.whole.Goals as goal
use Rattle.staged_writing.proofs.whole.Goals.{After-past-at}

-- `staged_writing::whole` meets its contract: the replacement, or data of the base.
pub returns-then-at-state : goal.returns-then-at-state
returns-then-at-state c = let p = (goal.at.returns-then-at-state c).After-past-at in
    let a = p.args in
    let e : a.state.writing.sections_begun - 1 ≡ a.state.replaced = omega (arith, p.past-at.ensures) in
    whole_replaced a.state a.base.now a.replacement.now e

pub returns : goal.returns
returns c = let p = (goal.at.returns c).After-past-at in
    let a = p.args in
    c.base_data.ensures
    ∙ ap (base_data a.base.now a.state.writing.places) p.past-at.ensures
    ∙ whole_kept a.state a.base.now a.replacement.now (λ e. omega (arith, p.past-at.ensures))
