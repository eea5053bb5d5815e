use mathlib.Core.Path.{ap, ◌∙◌}
use Rattle.eif_flat.specs.Flat.{flat_written}
use Rattle.eif_c.proofs.eif_roll_write.Goals as goal

-- `eif_roll_write` meets its contract: what it calls ensures the answer, made flat. Assumes nothing.
pub returns : goal.returns
returns c = record { value = c.flat_written.ensures ∙ ap (λ r. flat_written r) c.write.ensures.value; out_after = c.write.ensures.out_after }
