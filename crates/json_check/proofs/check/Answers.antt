use mathlib.Core.Path.{refl}
use Rattle.json_machine.specs.Table.{classes}
use Rattle.json_check.specs.Columns.{columns}
use Rattle.json_check.proofs.Laws.{answer_right}
use Rattle.json_check.proofs.check.Goals as goal

-- `json_check::check` meets its contract: its tables are those of the machine, whose verdict is the right one. Assumes nothing.
pub walk-requires : goal.walk-requires
unfolding classes columns
walk-requires c = (refl, refl)

pub returns : goal.returns
returns c = let p = answer_right c.args.text.now c.walk.result c.walk.ensures in record { value = p.0; verdict = p.1 }
