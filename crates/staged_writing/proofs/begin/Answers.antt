use mathlib.Core.Path.{ap, ◌∙◌}
use lib.ListN.{length}
use Rattle.eif.specs.declared.Reading.{Reading}
use Rattle.staged_writing.specs.StagedWriting.{listed_begun}
use Rattle.staged_writing.proofs.Begun.{begun_agrees}
use Rattle.staged_writing.proofs.begin.Goals as goal
use Rattle.staged_writing.proofs.begin.Goals.{After-read-reading}

-- `staged_writing::begin` meets its contract: the base's own reading gives the base's answer.
pub returns : goal.returns
returns c = let r = (goal.at.returns c).After-read-reading in
    let a = r.args in
    c.begin_over.ensures
    ∙ ap (λ (x : Reading). listed_begun x (length a.replacement.now) a.replaced a.checksum) r.read-reading.ensures
    ∙ begun_agrees a.base.now a.replacement.now a.replaced a.checksum
