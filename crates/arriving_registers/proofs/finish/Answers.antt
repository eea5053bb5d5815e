use Rattle.arriving.specs.Calls.{told_end}
use Rattle.arriving_registers.proofs.Steps.{finished_is}
use Rattle.arriving_registers.proofs.finish.Goals as goal

-- `arriving_registers::finish` meets its contract.
pub returns : goal.returns
unfolding told_end
returns c = finished_is c.args.state c.answer-reading.ensures c.digests-registers.ensures
