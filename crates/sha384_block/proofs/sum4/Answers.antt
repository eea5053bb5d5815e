use Rattle.std.proofs.Common.{◌+◌, ◌^◌}
use Rattle.sha384_block.proofs.Block.{sum_next}
use Rattle.sha384_block.proofs.sum4.Goals as goal

-- `sha384_block::sum4` meets its contract: the remainder may be taken once, at the end. Assumes nothing.
pub returns : goal.returns
returns c = let a = c.args in
    sum_next (a.a + a.b + a.c) a.d (2 ^ 64)
    (sum_next (a.a + a.b) a.c (2 ^ 64) c.wrapping_add_u64.ensures.value c.wrapping_add_u64-2.ensures.value)
    c.wrapping_add_u64-3.ensures.value
