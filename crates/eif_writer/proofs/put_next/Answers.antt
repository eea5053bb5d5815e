use mathlib.Core.Path.{refl}
use Rattle.eif_writer.specs.Parts.{next_fields}
use Rattle.octets.proofs.Over.{over_joined}
use Rattle.eif_writer.proofs.put_next.Goals as goal
use Rattle.eif_writer.proofs.put_next.Goals.{After-put_be16, After-put_be16-2, After-put_be64, After-put_be64-2}

-- `eif_writer::put_next` meets its contract: each field starts where the one before it ends. Assumes nothing.
pub returns : goal.returns
unfolding next_fields
returns c = let z = (goal.at.returns c).After-put_be16-2 in
    let y = (goal.at.After-put_be16-2 z).After-put_be16 in
    let x = (goal.at.After-put_be16 y).After-put_be64-2 in
    let w = (goal.at.After-put_be64-2 x).After-put_be64 in
    over_joined _ _ _ _ w.put_be64.ensures
    (over_joined _ _ _ _ x.put_be64-2.ensures (over_joined _ _ _ _ y.put_be16.ensures z.put_be16-2.ensures refl) refl) refl
