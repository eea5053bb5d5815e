use mathlib.Core.Path.{◌∙◌}
use Rattle.eif_fingerprint.specs.Fingerprint.{no_fingerprint}
use Rattle.eif_fingerprint.proofs.Answers.{view_refused, view_accepted}
use Rattle.eif_fingerprint.proofs.step_view.Goals as goal
use Rattle.eif_fingerprint.proofs.step_view.Goals.{In-Accepted}

-- `eif_fingerprint::step_view` meets its contract: zero for a refused view, and otherwise the digest over its sections.
pub returns-in_default : goal.returns-in_default
unfolding no_fingerprint
returns-in_default c = let a = c.args in
    let t = c.in_default in
    view_refused a.base.now a.replacement.now a.view t.field-0 t.is

pub returns : goal.returns
returns c = let k = (goal.at.returns c).In-Accepted in
    let a = k.args in
    c.roll_digest.ensures ∙ view_accepted a.base.now a.replacement.now a.view k.in-Accepted.is
