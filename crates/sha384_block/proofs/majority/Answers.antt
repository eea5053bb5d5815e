use Rattle.sha384_block.specs.Fips.{maj}
use Rattle.sha384_block.proofs.Choice.{majority_is}
use Rattle.sha384_block.proofs.majority.Goals as goal

-- `sha384_block::majority` meets its contract. Assumes nothing.
pub returns : goal.returns
unfolding maj
returns c = majority_is c.args.x c.args.y c.args.z
