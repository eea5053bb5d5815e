use mathlib.Core.Path.{refl}
use Rattle.eif_writer.specs.Parts.{first_fields}
use Rattle.octets.proofs.Over.{over_joined}
use Rattle.eif_writer.proofs.put_first.Goals as goal
use Rattle.eif_writer.proofs.put_first.Goals.{After-put_be16, After-put_be16-2, After-put_be32}

-- `eif_writer::put_first` meets its contract: each field starts where the one before it ends. Assumes nothing.
pub returns : goal.returns
unfolding first_fields
returns c = let z = (goal.at.returns c).After-put_be16-2 in
    let y = (goal.at.After-put_be16-2 z).After-put_be16 in
    let x = (goal.at.After-put_be16 y).After-put_be32 in
    over_joined _ _ _ _ x.put_be32.ensures (over_joined _ _ _ _ y.put_be16.ensures z.put_be16-2.ensures refl) refl
