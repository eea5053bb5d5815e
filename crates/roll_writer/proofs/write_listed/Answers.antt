use Prim.Native.Nat.{ℕ}
use mathlib.Core.Path.{ap, ◌∙◌}
use mathlib.Core.List.{List}
use lib.ListN.{length}
use Rattle.roll_writer.specs.Write.{written_after, output_after, listed_roll_answer, listed_roll_output}
use Rattle.roll_writer.proofs.Reading.{roll_alone}
use Rattle.roll_writer.proofs.write_listed.Goals as goal

-- `roll_writer::write_listed` meets its contract: the case with nothing replaced.
pub returns : goal.returns
unfolding listed_roll_answer listed_roll_output
returns c = let a = c.args in
    let x = a.reading in
    let d = a.out.now in
    let e = roll_alone a.image.now x.flags x.sections in
    let q = c.write_sections.ensures in
    record { value = q.value ∙ ap (λ (b : List ℕ). written_after x.verdict b (length d)) e; out_after = q.out_after ∙ ap (λ (b : List ℕ). output_after x.verdict b d) e }
