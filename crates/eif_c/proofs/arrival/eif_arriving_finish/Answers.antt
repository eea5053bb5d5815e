use mathlib.Core.Path.{ap, ◌∙◌}
use Rattle.arriving.specs.declared.Arriving.{Arriving}
use Rattle.eif_c.specs.Arrival.{flat_finished}
use Rattle.eif_flat.specs.declared.EifReading.{EifReading}
use Rattle.eif_c.specs.declared.arrival.EifArrivingFinished.{EifArrivingFinished}
use Rattle.eif_c.proofs.arrival.eif_arriving_finish.Goals as goal

-- `eif_arriving_finish` meets its contract: the answer at the end, its reading made flat.
-- Assumes nothing.
abbrev with : Arriving → EifReading → EifArrivingFinished
with a r = record { state = a; reading = r }

pub returns : goal.returns
returns c = ap (with c.finish-done.result.state) c.flat_reading.ensures ∙ ap flat_finished c.finish-done.ensures
