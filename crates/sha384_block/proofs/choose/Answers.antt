use Rattle.std.proofs.Common.{arith}
use Rattle.sha384_block.specs.Fips.{ch}
use Rattle.sha384_block.proofs.Choice.{choice_is}
use Rattle.sha384_block.proofs.choose.Goals as goal

-- `sha384_block::choose` meets its contract. Assumes nothing.
pub returns : goal.returns
unfolding ch
returns c = choice_is c.args.x c.args.y c.args.z (omega arith) (omega arith)
