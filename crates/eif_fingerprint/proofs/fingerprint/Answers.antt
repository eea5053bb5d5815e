use Rattle.eif_fingerprint.proofs.Answers.{answer_is}
use Rattle.eif_fingerprint.proofs.fingerprint.Goals as goal
use Rattle.eif_fingerprint.proofs.fingerprint.Goals.{After-read-reading}

-- `eif_fingerprint::fingerprint` meets its contract: the verdict of the reading, and the fingerprint by it.
pub returns : goal.returns
returns c = let r = (goal.at.returns c).After-read-reading in
    let a = r.args in
    answer_is a.image.now r.read-reading.result r.read-reading.ensures c.step-digest.ensures
