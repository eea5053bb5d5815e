use Rattle.std.proofs.Common.{arith}
use Rattle.sha384_block.specs.Fips.{big_sigma1}
use Rattle.sha384_block.proofs.Rotate.{big_sigma1_nested}
use Rattle.sha384_block.proofs.big_sigma1.Goals as goal

-- `sha384_block::big_sigma1` meets its contract: rotated in steps, each of what the one before left. Assumes nothing.
pub returns : goal.returns
unfolding big_sigma1
returns c = big_sigma1_nested c.args.x (omega arith)
