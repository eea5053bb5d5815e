use mathlib.Core.Path.{sym, ap, ◌∙◌}
use Rattle.sha384.specs.State.{digest_from}
use Rattle.eif_fingerprint.specs.Fingerprint.{no_fingerprint}
use Rattle.arriving_fingerprint.proofs.Steps.{zeros_beside, digest_beside}
use Rattle.arriving_fingerprint.proofs.digest.Goals as goal
use Rattle.arriving_fingerprint.proofs.digest.Goals.{In-Accepted}

-- `arriving_fingerprint::digest` meets its contract: zero for a refused image, or the digest with the end record.
pub returns-in_default : goal.returns-in_default
unfolding no_fingerprint
returns-in_default c = let a = c.args in
    let t = c.in_default in
    sym (zeros_beside a.verdict a.roll t.field-0 t.is)

pub returns : goal.returns
returns c = let k = (goal.at.returns c).In-Accepted in
    let a = k.args in
    c.finish.ensures ∙ ap digest_from c.hash_head-whole.ensures ∙ sym (digest_beside a.verdict a.roll k.in-Accepted.is)
