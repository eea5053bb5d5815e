use mathlib.Core.Path.{ap, ◌∙◌}
use Rattle.eif_flat.specs.Flat.{flat_written}
use Rattle.eif_c.proofs.eif_roll_length.Goals as goal

-- `eif_roll_length` meets its contract: what it calls ensures the answer, made flat. Assumes nothing.
pub returns : goal.returns
returns c = c.flat_written.ensures ∙ ap (λ r. flat_written r) c.length.ensures
