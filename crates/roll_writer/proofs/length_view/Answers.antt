use Rattle.roll_writer.specs.Write.{view_roll_length}
use Rattle.roll_writer.proofs.length_view.Goals as goal

-- `roll_writer::length_view` meets its contract: the length of the roll of the view's flags and sections, after its verdict.
pub returns : goal.returns
unfolding view_roll_length
returns c = c.length_of.ensures
