use mathlib.Core.Path.{ap, ◌∙◌}
use lib.ListN.{length}
use Rattle.eif.specs.declared.Reading.{Reading}
use Rattle.eif.specs.declared.Written.{Written}
use Rattle.eif_flat.specs.Flat.{flat_written}
use Rattle.roll_writer.specs.Write.{listed_roll_answer, listed_roll_output}
use Rattle.eif_c.proofs.readings.eif_read_roll_write.Goals as goal

-- `eif_read_roll_write` meets its contract: what it calls ensures the answer, made flat, and the output.
pub returns : goal.returns
returns c = let w = c in
    let a = w.args in
    let s = a.image.now in
    let o = a.out.now in
    let e = w.given_reading.ensures in
    let done = w.write_listed-written.ensures in record { value = c.flat_written.ensures ∙ ap (λ (x : Written). flat_written x) (done.value ∙ ap (λ (r : Reading). listed_roll_answer s r (length o)) e); out_after = done.out_after ∙ ap (λ (r : Reading). listed_roll_output s r o) e }
