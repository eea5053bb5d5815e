use mathlib.Core.Path.{◌∙◌}
use Rattle.roll_writer.proofs.Reading.{length_is}
use Rattle.roll_writer.proofs.length.Goals as goal
use Rattle.roll_writer.proofs.length.Goals.{After-read-reading}

-- `roll_writer::length` meets its contract: the length from the image's own reading is the image's. Assumes nothing.
pub returns : goal.returns
returns c = let w = (goal.at.returns c).After-read-reading in
    c.length_listed.ensures ∙ length_is w.args.image.now w.read-reading.result w.read-reading.ensures
