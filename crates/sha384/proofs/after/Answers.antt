use mathlib.Core.Path.{ap}
use Rattle.sha384.specs.declared.Updated.{Updated}
use Rattle.sha384.proofs.after.Goals as goal

-- `sha384::after` meets its contract: the state of what `update` answers.
pub returns : goal.returns
returns c = ap (λ (u : Updated). u.state) c.update-answer.ensures
