use mathlib.Core.Path.{◌∙◌}
use lib.ListN.{length}
use Rattle.roll_writer.proofs.Reading.{answer_is, output_is}
use Rattle.roll_writer.proofs.write.Goals as goal
use Rattle.roll_writer.proofs.write.Goals.{After-read-reading}

-- `roll_writer::write` meets its contract: the roll from the image's own reading is the image's. Assumes nothing.
pub returns : goal.returns
returns c = let w = (goal.at.returns c).After-read-reading in
    let a = w.args in
    let s = a.image.now in
    let d = a.out.now in
    let q = c.write_listed.ensures in
    record { value = q.value ∙ answer_is s w.read-reading.result w.read-reading.ensures (length d); out_after = q.out_after ∙ output_is s w.read-reading.result w.read-reading.ensures d }
