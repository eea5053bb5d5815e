use mathlib.Core.Path.{ap, ◌∙◌}
use mathlib.Core.List.{List}
use lib.ListN.{set}
use Rattle.eif.specs.Plan.{place_at}
use Rattle.eif.specs.declared.Place.{Place}
use Rattle.eif.specs.declared.Plan.{Plan}
use Rattle.eif.specs.declared.Reading.{Reading}
use Rattle.staged.specs.Staged.{with_length}
use Rattle.staged_view.proofs.plan_listed.Goals as goal
use Rattle.staged_view.proofs.plan_listed.Goals.{After-places_of}

-- `staged_view::plan_listed` meets its contract: the places are those of the reading's sections, one with another length.
abbrev plan_with : Reading → List Place → Plan
plan_with r l = record { version = r.version; flags = r.flags; default_mem = r.default_mem; default_cpus = r.default_cpus; count = r.count; places = l }

pub returns : goal.returns
returns c = let p = (goal.at.returns c).After-places_of in
    let a = p.args in
    ap (plan_with a.reading)
    (c.with_length-places.ensures ∙ ap (λ (l : List Place). set l a.replaced (with_length (place_at l a.replaced) a.size)) p.places_of.ensures)
