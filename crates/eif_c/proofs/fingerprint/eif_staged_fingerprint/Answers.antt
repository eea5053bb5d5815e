use mathlib.Core.Path.{ap, ◌∙◌}
use Rattle.eif_c.specs.Fingerprint.{flat_fingerprint}
use Rattle.eif_c.proofs.fingerprint.eif_staged_fingerprint.Goals as goal

-- `eif_staged_fingerprint` meets its contract: the fingerprint, made flat.
pub returns : goal.returns
returns c = c.flat_fingerprint.ensures ∙ ap flat_fingerprint c.fingerprint_staged-answer.ensures
