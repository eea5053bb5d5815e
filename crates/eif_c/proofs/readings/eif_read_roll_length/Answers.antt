use mathlib.Core.Path.{ap, ◌∙◌}
use Rattle.eif.specs.declared.Reading.{Reading}
use Rattle.eif.specs.declared.Written.{Written}
use Rattle.eif_flat.specs.Flat.{flat_written}
use Rattle.roll_writer.specs.Write.{listed_roll_length}
use Rattle.eif_c.proofs.readings.eif_read_roll_length.Goals as goal

-- `eif_read_roll_length` meets its contract: what it calls ensures the answer, made flat.
pub returns : goal.returns
returns c = let s = c.args.image.now in
    c.flat_written.ensures
    ∙ ap (λ (w : Written). flat_written w) (c.length_listed-found.ensures ∙ ap (λ (r : Reading). listed_roll_length s r) c.given_reading.ensures)
