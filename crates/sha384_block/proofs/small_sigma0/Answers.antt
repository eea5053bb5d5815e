use Rattle.std.proofs.Common.{arith}
use Rattle.sha384_block.specs.Fips.{small_sigma0}
use Rattle.sha384_block.proofs.Rotate.{small_sigma0_nested}
use Rattle.sha384_block.proofs.small_sigma0.Goals as goal

-- `sha384_block::small_sigma0` meets its contract: rotated in steps, each of what the one before left. Assumes nothing.
pub returns : goal.returns
unfolding small_sigma0
returns c = small_sigma0_nested c.args.x (omega arith)
