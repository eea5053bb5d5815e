use mathlib.Core.Path.{ap, ◌∙◌}
use Rattle.staged.specs.declared.StagedPart.{StagedPart}
use Rattle.eif_c.specs.Staging.{flat_part}
use Rattle.eif_c.proofs.staging.eif_staged_part.Goals as goal

-- `eif_staged_part` meets its contract: what it calls ensures the answer, made flat.
pub returns : goal.returns
returns c = c.flat_part.ensures ∙ ap (λ (p : StagedPart). flat_part p) c.place.ensures
