use Rattle.eif_checksum.proofs.Parts.{in_parts_holds}
use Rattle.eif_checksum.proofs.checksum.Goals as goal
use Rattle.eif_checksum.proofs.checksum.Goals.{After-back, After-update-before}

-- `checksum` meets its contract: the bytes before the field and those after it, taken in one after the other, are their
-- concatenation taken in. Assumes nothing.
pub returns : goal.returns
returns c = let b = (goal.at.returns c).After-back in
    let u = (goal.at.After-back b).After-update-before in
    let s = u.args.image.now in
    in_parts_holds s _ _ _ _ _ u.front.ensures.result_value b.back.ensures.result_value u.update-before.ensures c.update.ensures c.finish.ensures
