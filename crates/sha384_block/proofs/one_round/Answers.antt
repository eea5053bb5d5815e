use Rattle.sha384_block.specs.Fips.{temp1, temp2}
use Rattle.sha384_block.proofs.Block.{round_made}
use Rattle.sha384_block.proofs.one_round.Goals as goal

-- `sha384_block::one_round` meets its contract: the two sums and the shift of the variables are the round. Assumes nothing.
pub returns : goal.returns
unfolding temp1 temp2
returns c = let a = c.args in
    let x = c.temp1-t1 in
    let y = c.temp2-t2 in
    let f = c.wrapping_add_u64 in
    let g = c.wrapping_add_u64-2 in
    round_made a.k a.w a.v x.result y.result f.result g.result x.ensures y.ensures g.ensures.value f.ensures.value
