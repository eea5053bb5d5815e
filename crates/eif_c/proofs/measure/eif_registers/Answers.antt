use mathlib.Core.Path.{ap, ◌∙◌}
use Rattle.eif_c.specs.Measure.{flat_registers}
use Rattle.eif_c.proofs.measure.eif_registers.Goals as goal

-- `eif_registers` meets its contract: the registers, made flat.
-- Assumes nothing.
pub returns : goal.returns
returns c = c.flat_registers.ensures ∙ ap flat_registers c.registers.ensures
