use mathlib.Core.Path.{sym}
use Rattle.eif_registers.specs.Registers.{no_registers}
use Rattle.arriving_registers.proofs.Steps.{zeros_beside, registers_beside_holds}
use Rattle.arriving_registers.proofs.digests.Goals as goal
use Rattle.arriving_registers.proofs.digests.Goals.{In-Accepted}

-- `arriving_registers::digests` meets its contract: zeros, or the registers of the three digests.
pub returns-in_default : goal.returns-in_default
unfolding no_registers
returns-in_default c = let a = c.args in
    let t = c.in_default in
    sym (zeros_beside a.verdict a.streams.now t.field-0 t.is)

pub returns : goal.returns
returns c = let k = (goal.at.returns c).In-Accepted in
    let a = k.args in
    registers_beside_holds a.verdict a.streams.now k.in-Accepted.is c.register-zeroth.ensures c.register-first.ensures c.register-second.ensures
