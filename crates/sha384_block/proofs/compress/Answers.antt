use Rattle.std.proofs.Common.{ℕ, List, ap, ◌∙◌, ap₂}
use Rattle.sha384_block.specs.Fips.{compress_by, schedule, extend, next_hash, rounds}
use Rattle.sha384_block.specs.declared.Vars.{Vars}
use Rattle.sha384_block.proofs.compress.Goals as goal

-- `sha384_block::compress` meets its contract: the block's own words, the rounds over the schedule, and the sum. Assumes nothing.
pub returns : goal.returns
unfolding compress_by schedule
returns c = let a = c.args in
    c.plus.ensures
    ∙ ap (next_hash a.words) c.all_rounds-after.ensures
    ∙ ap₂ (λ (w : List ℕ) (v : Vars). next_hash a.words (rounds 80 0 a.k.now (extend 64 w) v)) c.own_words-own.ensures c.vars_of.ensures
