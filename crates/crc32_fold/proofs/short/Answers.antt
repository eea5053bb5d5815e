use mathlib.Core.Path.{ap, ◌∙◌}
use Rattle.crc32_lemmas.specs.Fold.{remainder_from}
use Rattle.crc32_lemmas.proofs.Remainder.{remainder_crc}
use Rattle.crc32_fold.proofs.Carried.{carried_one}
use Rattle.crc32_fold.proofs.short.Goals as goal

-- `crc32_fold::short` meets its contract: at the start, the state is all that is added to the bytes.
-- Assumes nothing.
pub returns-then-s-lt-CARRY : goal.returns-then-s-lt-CARRY
returns-then-s-lt-CARRY c = let a = c.args in
    c.tail.ensures ∙ remainder_crc a.s.now a.state (λ k. (c.type_inv.s k).fits)

pub returns : goal.returns
returns c = let a = c.args in
    let x = c.wide32 in
    c.rest.ensures
    ∙ ap (remainder_from a.s.now 0) (carried_one x.result ∙ x.ensures.0)
    ∙ remainder_crc a.s.now a.state (λ k. (c.type_inv.s k).fits)
