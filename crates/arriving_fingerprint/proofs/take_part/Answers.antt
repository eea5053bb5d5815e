use Rattle.arriving_fingerprint.proofs.Steps.{taken_is}
use Rattle.arriving_fingerprint.proofs.take_part.Goals as goal

-- `arriving_fingerprint::take_part` meets its contract.
pub returns : goal.returns
returns c = let a = c.args in
    taken_is a.state.now a.span a.bytes.now c.feed-answer.ensures c.next-then.ensures c.hash_part-state.ensures
