use native.Mathlib.Nat.{add-zero}
use Rattle.case_images.proofs.put_own_header.Goals as goal
use Rattle.case_images.proofs.put_own_header.Goals.{After-put_be16}

-- `put_own_header` meets its contract: the writes one after the other are the definition's.
-- Assumes nothing.
pub returns : goal.returns
returns c = let first = (goal.at.returns c).After-put_be16 in
    cc (add-zero first.args.at)
