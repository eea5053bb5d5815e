use Rattle.sha384_block.proofs.Block.{eight}
use Rattle.sha384_block.proofs.plus.Goals as goal

-- `sha384_block::plus` meets its contract: each word is a sum modulo 2 ^ 64. Assumes nothing.
pub returns : goal.returns
returns c = eight
    c.wrapping_add_u64.ensures.value
    c.wrapping_add_u64-2.ensures.value
    c.wrapping_add_u64-3.ensures.value
    c.wrapping_add_u64-4.ensures.value
    c.wrapping_add_u64-5.ensures.value
    c.wrapping_add_u64-6.ensures.value
    c.wrapping_add_u64-7.ensures.value
    c.wrapping_add_u64-8.ensures.value
