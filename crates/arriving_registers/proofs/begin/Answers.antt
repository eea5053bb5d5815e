use mathlib.Core.Path.{ap₂}
use Rattle.arriving.specs.declared.Arriving.{Arriving}
use Rattle.sha384.specs.declared.State.{State}
use Rattle.arriving_registers.specs.Measuring.{streams_of, measuring_of, fresh_measuring}
use Rattle.arriving_registers.proofs.begin.Goals as goal

-- `arriving_registers::begin` meets its contract.
pub returns : goal.returns
unfolding fresh_measuring
returns c = ap₂ (λ (a : Arriving) (d : State). measuring_of a (streams_of d d d)) c.begin-state.ensures c.new-none.ensures
