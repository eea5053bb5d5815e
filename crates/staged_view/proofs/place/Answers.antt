use mathlib.Core.Path.{ap, ◌∙◌}
use lib.ListN.{length}
use Rattle.eif.specs.declared.Reading.{Reading}
use Rattle.staged.specs.Listed.{listed_place}
use Rattle.staged.proofs.Listed.{place_agrees}
use Rattle.staged_view.proofs.place.Goals as goal

-- `staged_view::place` meets its contract: the place from the base's own reading is the base's. Assumes nothing.
pub returns : goal.returns
returns c = let a = c.args in
    let s = a.base.now in
    c.place_listed.ensures ∙ ap (λ (x : Reading). listed_place x (length s) a.size a.replaced a.shown) c.read-reading.ensures
    ∙ place_agrees s a.size a.replaced a.shown
