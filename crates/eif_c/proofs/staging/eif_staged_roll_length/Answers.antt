use mathlib.Core.Path.{ap, ◌∙◌}
use Rattle.eif_flat.specs.Flat.{flat_written}
use Rattle.eif_c.proofs.staging.eif_staged_roll_length.Goals as goal

-- `eif_staged_roll_length` meets its contract: what it calls ensures the answer, made flat. Assumes nothing.
pub returns : goal.returns
returns c = c.flat_written.ensures ∙ ap (λ r. flat_written r) c.length_staged.ensures
