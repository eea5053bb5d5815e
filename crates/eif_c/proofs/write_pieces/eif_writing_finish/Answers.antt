use mathlib.Core.Path.{ap, ◌∙◌}
use Rattle.eif_c.specs.WritePieces.{flat_summed}
use Rattle.eif_c.proofs.write_pieces.eif_writing_finish.Goals as goal

-- `eif_writing_finish` meets its contract: the checksum with its verdict made flat.
pub returns : goal.returns
returns c = c.flat_summed.ensures ∙ ap flat_summed c.finish.ensures
