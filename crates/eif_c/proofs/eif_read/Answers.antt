use mathlib.Core.Path.{ap, ◌∙◌}
use Rattle.eif_flat.specs.Flat.{flat_reading}
use Rattle.eif_c.proofs.eif_read.Goals as goal

-- `eif_read` meets its contract: the reader's answer, made flat.
-- Assumes nothing.
pub returns : goal.returns
returns c = c.flat_reading.ensures ∙ ap flat_reading c.read.ensures
