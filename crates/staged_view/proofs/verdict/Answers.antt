use mathlib.Core.Path.{ap, ◌∙◌}
use lib.ListN.{length}
use Rattle.eif.specs.declared.Reading.{Reading}
use Rattle.staged.specs.Listed.{listed_verdict}
use Rattle.staged.proofs.Listed.{verdict_agrees}
use Rattle.staged_view.proofs.verdict.Goals as goal

-- `staged_view::verdict` meets its contract: the verdict from the base's own reading is the base's. Assumes nothing.
pub returns : goal.returns
returns c = let a = c.args in
    let size = length a.replacement.now in
    c.verdict_listed.ensures ∙ ap (λ (x : Reading). listed_verdict x size a.replaced a.shown) c.read-reading.ensures
    ∙ verdict_agrees a.base.now size a.replaced a.shown
