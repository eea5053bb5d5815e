use native.Mathlib.Omega.{arith}
use Rattle.arriving_registers.proofs.Steps.{taken_none, taken_data}
use Rattle.arriving_registers.proofs.take_part.Goals as goal

-- `arriving_registers::take_part` meets its contract: bytes of a section's data are hashed, others are not.
pub returns-then-place : goal.returns-then-place
returns-then-place c = let a = c.args in
    taken_none a.state.now a.place a.bytes.now (omega arith) c.feed-answer.ensures

pub returns : goal.returns
returns c = let a = c.args in
    taken_data a.state.now a.place a.bytes.now (omega arith) c.feed-answer.ensures c.kind_at.ensures c.ramdisks_before.ensures c.hash-state.ensures
