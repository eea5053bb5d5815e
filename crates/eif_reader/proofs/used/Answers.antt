use Prim.Native.Nat.{min}
use mathlib.Core.Path.{ap, ◌∙◌}
use Rattle.eif.specs.Numbers.{place_count}
use Rattle.eif_reader.proofs.used.Goals as goal

-- `eif_reader::used` meets its contract: it is the lesser of the two. Assumes nothing.
pub returns : goal.returns
returns c = c.lesser.ensures ∙ ap (min place_count) c.be16.ensures
