use mathlib.Core.Path.{ap, ◌∙◌}
use Rattle.eif_flat.specs.Flat.{flat_length}
use Rattle.eif_c.proofs.stream_length.Goals as goal

-- `stream_length` meets its contract: what it calls ensures the answer, made flat. Assumes nothing.
pub returns : goal.returns
returns c = c.flat_length.ensures ∙ ap (λ r. flat_length r) c.length.ensures
