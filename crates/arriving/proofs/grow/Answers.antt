use Rattle.arriving.proofs.Steps.{grown_is}
use Rattle.arriving.proofs.grow.Goals as goal
use Rattle.arriving.proofs.grow.Goals.{After-copy, After-keep_headers}

-- `arriving::grow` meets its contract: the header first, then the sections' own headers by it, and the checksum's remainder.
-- Assumes nothing.
pub returns : goal.returns
returns c = let k = (goal.at.returns c).After-keep_headers in
    let h = (goal.at.After-keep_headers k).After-copy in
    let a = h.args in
    grown_is a.state a.piece.now h.copy.ensures k.keep_headers.ensures c.remainder.ensures
