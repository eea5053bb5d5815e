use mathlib.Core.Path.{refl}
use Rattle.eif_registers.specs.Registers.{no_registers}
use Rattle.eif_registers.proofs.refused.Goals as goal

-- `eif_registers::refused` meets its contract: three times zeros are no registers. Assumes nothing.
pub returns : goal.returns
unfolding no_registers
returns c = refl
