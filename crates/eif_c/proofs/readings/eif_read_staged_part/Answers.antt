use mathlib.Core.Path.{ap, ◌∙◌}
use Rattle.eif.specs.declared.Reading.{Reading}
use Rattle.staged.specs.Listed.{listed_place}
use Rattle.staged.specs.declared.StagedPart.{StagedPart}
use Rattle.eif_c.specs.Staging.{flat_part}
use Rattle.eif_c.proofs.readings.eif_read_staged_part.Goals as goal

-- `eif_read_staged_part` meets its contract: what it calls ensures the answer, made flat.
pub returns : goal.returns
returns c = let a = c.args in
    c.flat_part.ensures
    ∙ ap (λ (p : StagedPart). flat_part p)
    (c.place_listed-found.ensures
    ∙ ap (λ (r : Reading). listed_place r a.end a.size a.replaced a.shown) c.given_reading.ensures)
