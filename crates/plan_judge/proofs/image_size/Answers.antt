use mathlib.Core.Path.{◌∙◌}
use native.Mathlib.Omega.{arith}
use Rattle.plan_judge.proofs.Size.{image_none, image_limited}
use Rattle.plan_judge.proofs.image_size.Goals as goal

-- `plan_judge::image_size` meets its contract: past the places there is no image; within them its size is the packed
-- size. Assumes nothing.
pub returns-then-count-gt-PLACES : goal.returns-then-count-gt-PLACES
returns-then-count-gt-PLACES c = image_none c.args.plan (omega arith)

pub returns : goal.returns
returns c = c.packed_size.ensures ∙ image_limited c.args.plan (omega arith)
