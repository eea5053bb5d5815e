use Rattle.eif.specs.Table.{in_table}
use Rattle.case_images.proofs.worked_plan.Goals as goal

-- `case_images::worked_plan` meets its contract: each place is what was made for it. Assumes nothing.
pub returns : goal.returns
unfolding in_table
returns c = cc
