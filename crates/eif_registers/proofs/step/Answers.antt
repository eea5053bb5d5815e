use mathlib.Core.Path.{◌∙◌}
use Rattle.eif_registers.specs.Registers.{no_registers}
use Rattle.eif_registers.proofs.Answers.{read_refused, read_accepted}
use Rattle.eif_registers.proofs.Staged.{step_alone}
use Rattle.eif_registers.proofs.step.Goals as goal

-- `eif_registers::step` meets its contract: zeros for a refused reading, and otherwise the case with nothing replaced.
pub returns-in_default : goal.returns-in_default
unfolding no_registers
returns-in_default c = let a = c.args in
    let t = c.in_default in
    read_refused a.image.now a.reading t.field-0 t.is

pub returns : goal.returns
returns c = let a = c.args in
    c.step_over.ensures ∙ step_alone a.image.now a.reading.sections ∙ read_accepted a.image.now a.reading c.in-Accepted.is
