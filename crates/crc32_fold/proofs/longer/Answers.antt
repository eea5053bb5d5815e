use mathlib.Core.Path.{ap, ◌∙◌}
use lib.ListN.{replicate}
use Rattle.crc32_lemmas.specs.Fold.{remainder_from, ring_size}
use Rattle.crc32_lemmas.proofs.FoldWords.{words_cons, words_none}
use Rattle.crc32_lemmas.proofs.FoldRing.{start_ring}
use Rattle.crc32_lemmas.proofs.Remainder.{remainder_crc}
use borrow.Author.Rules.{rules}
use native.Mathlib.Omega.{arith}
use Rattle.crc32_fold.proofs.longer.Goals as goal
use Rattle.crc32_fold.proofs.longer.Goals.{After-turn_first, Start}

-- `crc32_fold::longer` meets its contract: what is left, with what the window adds to it, has one remainder all along.
-- Assumes nothing.
pub loop-i-init : goal.loop-i-init
loop-i-init c = let b = (goal.at.loop-i-init c).Start in
    let x = b.args.state in
    let s = b.args.s.now in
    let l = b.ranges.state.fits in
    (search rules, ap (remainder_from s 0) (start_ring x l) ∙ remainder_crc s x (λ k. (c.type_inv.s k).fits), words_cons 32 ring_size x (replicate ring_size 0) l (words_none 32 ring_size))

pub turn_first-requires : goal.turn_first-requires
turn_first-requires c = (omega arith, c.loop-i.invariant.2)

pub turn_second-requires : goal.turn_second-requires
turn_second-requires c = (omega arith, c.turn_first.ensures.1)

pub turn_third-requires : goal.turn_third-requires
turn_third-requires c = (omega arith, c.turn_second.ensures.1)

pub loop-i-preserved : goal.loop-i-preserved
loop-i-preserved c = let d = (goal.at.loop-i-preserved c).After-turn_first in
    (omega arith, c.turn_third.ensures.0 ∙ c.turn_second.ensures.0 ∙ d.turn_first.ensures.0 ∙ d.loop-i.invariant.1, c.turn_third.ensures.1)

pub empty_ring-n-requires : goal.empty_ring-n-requires
empty_ring-n-requires c = (omega arith, c.loop-i.invariant.2)

pub rest-requires : goal.rest-requires
rest-requires c = (omega arith, c.empty_ring-n.ensures.1)

pub returns : goal.returns
returns c = c.rest.ensures ∙ c.empty_ring-n.ensures.0 ∙ c.loop-i.invariant.1
