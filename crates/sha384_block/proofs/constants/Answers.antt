use Rattle.std.proofs.Common.{refl}
use Rattle.sha384_block.specs.Fips.{round_constants}
use Rattle.sha384_block.proofs.constants.Goals as goal

-- `sha384_block::constants` meets its contract: antt compares the two tables, word by word. Assumes nothing.
pub returns : goal.returns
unfolding round_constants
returns c = refl
