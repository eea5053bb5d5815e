use mathlib.Core.Path.{ap, ◌∙◌}
use Rattle.eif_flat.specs.Flat.{flat_reading}
use Rattle.eif_c.proofs.strict.eif_read_strict.Goals as goal

-- `eif_read_strict` meets its contract: the stricter reader's answer, made flat.
-- Assumes nothing.
pub returns : goal.returns
returns c = c.flat_reading.ensures ∙ ap flat_reading c.read_strict.ensures.value
