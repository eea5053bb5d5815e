use mathlib.Core.Path.{◌∙◌}
use Rattle.eif_fingerprint.specs.Fingerprint.{no_fingerprint}
use Rattle.eif_fingerprint.proofs.Answers.{digest_alone, read_refused, read_accepted}
use Rattle.eif_fingerprint.proofs.step.Goals as goal

-- `eif_fingerprint::step` meets its contract: zero for a refused reading, and otherwise the digest over its sections.
pub returns-in_default : goal.returns-in_default
unfolding no_fingerprint
returns-in_default c = let a = c.args in
    let t = c.in_default in
    read_refused a.image.now a.reading t.field-0 t.is

pub returns : goal.returns
returns c = let a = c.args in
    c.roll_digest.ensures ∙ digest_alone a.image.now a.reading.flags a.reading.sections ∙ read_accepted a.image.now a.reading c.in-Accepted.is
