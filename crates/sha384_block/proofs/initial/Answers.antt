use Rattle.std.proofs.Common.{refl}
use Rattle.sha384_block.specs.Fips.{initial_hash}
use Rattle.sha384_block.proofs.initial.Goals as goal

-- `sha384_block::initial` meets its contract: antt compares the two tables, word by word. Assumes nothing.
pub returns : goal.returns
unfolding initial_hash
returns c = refl
