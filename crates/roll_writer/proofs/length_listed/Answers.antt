use mathlib.Core.Path.{ap, ◌∙◌}
use Rattle.roll_writer.specs.Write.{length_after, listed_roll_length}
use Rattle.roll_writer.proofs.Reading.{roll_alone}
use Rattle.roll_writer.proofs.length_listed.Goals as goal

-- `roll_writer::length_listed` meets its contract: the case with nothing replaced.
pub returns : goal.returns
unfolding listed_roll_length
returns c = let a = c.args in
    let x = a.reading in
    c.length_of.ensures ∙ ap (length_after x.verdict) (roll_alone a.image.now x.flags x.sections)
