use mathlib.Core.Path.{ap, ◌∙◌}
use lib.ListN.{length}
use Rattle.eif.specs.declared.Reading.{Reading}
use Rattle.staged.specs.Listed.{listed_view}
use Rattle.staged.proofs.Listed.{view_agrees}
use Rattle.staged_view.proofs.judge.Goals as goal

-- `staged_view::judge` meets its contract: the view from the base's own reading is the base's. Assumes nothing.
pub returns : goal.returns
returns c = let a = c.args in
    let s = a.base.now in
    c.judge_listed.ensures ∙ ap (λ (x : Reading). listed_view x (length s) a.size a.replaced a.shown) c.read-reading.ensures
    ∙ view_agrees s a.size a.replaced a.shown
