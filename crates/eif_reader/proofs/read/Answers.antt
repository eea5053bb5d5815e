use mathlib.Core.Path.{◌∙◌}
use Rattle.eif_reader.proofs.Headers.{read_parts}
use Rattle.eif_reader.proofs.read.Goals as goal
use Rattle.eif_reader.proofs.read.Goals.{After-back, After-gather-headers, After-update-before}

-- `eif_reader::read` meets its contract: what was gathered is read as the image is, with the checksum of its two parts.
-- Assumes nothing.
pub returns : goal.returns
returns c = let b = (goal.at.returns c).After-back in
    let u = (goal.at.After-back b).After-update-before in
    let g = (goal.at.After-update-before u).After-gather-headers in
    let image = g.args.image.now in
    c.read.ensures
    ∙ read_parts image g.gather-headers.result g.gather-headers.ensures _ _ _ u.front.ensures.result_value b.back.ensures.result_value u.update-before.ensures
