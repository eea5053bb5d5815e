use mathlib.Core.Path.{ap, ◌∙◌}
use Rattle.eif_flat.specs.Flat.{flat_roll_reading}
use Rattle.eif_c.proofs.eif_roll_read.Goals as goal

-- `eif_roll_read` meets its contract: the reader's answer, made flat.
-- Assumes nothing.
pub returns : goal.returns
returns c = c.flat_roll_reading.ensures ∙ ap flat_roll_reading c.read.ensures
