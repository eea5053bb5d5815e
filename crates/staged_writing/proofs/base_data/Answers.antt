use Prim.Native.Nat.{ℕ}
use mathlib.Core.Path.{ap, ◌∙◌}
use native.Mathlib.Omega.{arith}
use lib.ListN.{take, drop}
use Rattle.eif.specs.Layout.{section_header_size}
use Rattle.eif.specs.Plan.{planned_size}
use Rattle.staged_writing.proofs.Begun.{base_none, base_some}
use Rattle.staged_writing.proofs.base_data.Goals as goal
use Rattle.staged_writing.proofs.base_data.Goals.{After-after, After-after-own, After-offset_at}

-- `staged_writing::base_data` meets its contract: a place past the table has no data; another has what follows its own header.
pub returns-then-at : goal.returns-then-at
returns-then-at c = let a = c.args in
    base_none a.base.now a.places a.at (omega arith)

pub returns : goal.returns
returns c = let g = (goal.at.returns c).After-after in
    let f = (goal.at.After-after g).After-after-own in
    let o = (goal.at.After-after-own f).After-offset_at in
    let a = o.args in
    c.first.ensures
    ∙ ap (take (planned_size a.places a.at)) (g.after.ensures ∙ ap (drop section_header_size) (f.after-own.ensures ∙ ap (λ (n : ℕ). drop n a.base.now) o.offset_at.ensures))
    ∙ base_some a.base.now a.places a.at (omega arith)
