use mathlib.Core.Path.{ap, ◌∙◌}
use Rattle.eif.specs.Plan.{plan_of}
use Rattle.staged.specs.Staged.{with_place}
use Rattle.plan_judge.specs.Size.{image_size}
use Rattle.plan_judge.proofs.Size.{size_tells}
use Rattle.staged_view.proofs.too_long.Goals as goal
use Rattle.staged_view.proofs.too_long.Goals.{After-plan_listed}

-- `staged_view::too_long` meets its contract: an image's size is 0 exactly where it is over the limit.
pub returns : goal.returns
returns c = let p = (goal.at.returns c).After-plan_listed in
    let a = p.args in
    size_tells (with_place (plan_of a.reading) a.replaced a.size) c.image_size.result p.requires (c.image_size.ensures ∙ ap image_size p.plan_listed.ensures)
