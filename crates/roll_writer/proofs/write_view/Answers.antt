use Rattle.roll_writer.specs.Write.{view_roll_answer, view_roll_output}
use Rattle.roll_writer.proofs.write_view.Goals as goal

-- `roll_writer::write_view` meets its contract: the roll of the view's flags and sections, after its verdict.
pub returns : goal.returns
unfolding view_roll_answer view_roll_output
returns c = record { value = c.write_sections.ensures.value; out_after = c.write_sections.ensures.out_after }
