use mathlib.Core.Path.{◌∙◌}
use Rattle.eif_registers.specs.Registers.{no_registers}
use Rattle.eif_registers.proofs.Staged.{view_refused, view_accepted}
use Rattle.eif_registers.proofs.step_view.Goals as goal

-- `eif_registers::step_view` meets its contract: zeros for a refused view, and otherwise the step over its sections.
pub returns-in_default : goal.returns-in_default
unfolding no_registers
returns-in_default c = let a = c.args in
    let t = c.in_default in
    view_refused a.base.now a.replacement.now a.view t.field-0 t.is

pub returns : goal.returns
returns c = let a = c.args in
    c.step_over.ensures ∙ view_accepted a.base.now a.replacement.now a.view c.in-Accepted.is
