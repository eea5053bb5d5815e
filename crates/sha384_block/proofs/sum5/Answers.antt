use Rattle.std.proofs.Common.{◌+◌, ◌^◌}
use Rattle.sha384_block.proofs.Block.{sum_next}
use Rattle.sha384_block.proofs.sum5.Goals as goal

-- `sha384_block::sum5` meets its contract: a fifth number is added to the sum of four. Assumes nothing.
pub returns : goal.returns
returns c = let a = c.args in
    sum_next (a.a + a.b + a.c + a.d) a.e (2 ^ 64) c.sum4.ensures c.wrapping_add_u64.ensures.value
