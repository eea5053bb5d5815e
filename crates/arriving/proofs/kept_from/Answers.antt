use native.Mathlib.Omega.{arith}
use Rattle.arriving.specs.State.{kept_from}
use Rattle.arriving.proofs.kept_from.Goals as goal

-- `arriving::kept_from` meets its contract: the later of the two positions.
-- Assumes nothing.
pub returns-then-offset : goal.returns-then-offset
unfolding kept_from
returns-then-offset c = omega (arith, c.offset_at-offset.ensures)

pub returns : goal.returns
unfolding kept_from
returns c = omega (arith, c.offset_at-offset.ensures)
