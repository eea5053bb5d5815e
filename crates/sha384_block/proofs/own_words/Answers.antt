use Rattle.std.proofs.Common.{refl, ◌∙◌, arith, length-set}
use Rattle.sha384_block.proofs.Block.{own_word, own_words}
use Rattle.sha384_block.proofs.own_words.Goals as goal

-- `sha384_block::own_words` meets its contract: the words that are there, and those left to read, are the sixteen of the block. Assumes nothing.
pub loop-t-init : goal.loop-t-init
loop-t-init c = (omega arith, refl, refl)

pub loop-t-preserved : goal.loop-t-preserved
loop-t-preserved c = let l = c.loop-t in
    let s = c.args.block.now in
    (omega arith, simp length-set l.invariant.1, own_word l.w l.t c.be64.result (omega arith) s (omega arith) c.be64.ensures ∙ l.invariant.2)

pub returns : goal.returns
returns c = let l = c.loop-t in
    own_words l.w c.args.block.now l.t (omega arith) l.invariant.2
