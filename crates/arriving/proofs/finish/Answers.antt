use mathlib.Core.Path.{ap}
use Rattle.eif.specs.declared.Reading.{Reading}
use Rattle.arriving.specs.Calls.{told_end, finished}
use Rattle.arriving.specs.declared.Arriving.{Arriving}
use Rattle.arriving.specs.declared.Finished.{Finished}
use Rattle.arriving.proofs.finish.Goals as goal

-- `arriving::finish` meets its contract: the reading, and the state in which the end is told.
-- Assumes nothing.
abbrev with : Arriving → Reading → Finished
with a r = record { state = a; reading = r }

pub returns : goal.returns
unfolding finished told_end
returns c = ap (with (told_end c.args.state)) c.answer-reading.ensures
