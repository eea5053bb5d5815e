use mathlib.Core.Path.{ap, ◌∙◌}
use Rattle.eif_flat.specs.Flat.{flat_copied}
use Rattle.eif_c.proofs.copy_stream.Goals as goal

-- `copy_stream` meets its contract: what it calls ensures the answer, made flat. Assumes nothing.
pub returns : goal.returns
returns c = record { value = c.flat_copied.ensures ∙ ap (λ r. flat_copied r) c.copy.ensures.value; out_after = c.copy.ensures.out_after }
