use mathlib.Core.Path.{ap, ◌∙◌}
use Rattle.eif_flat.specs.declared.EifReading.{EifReading}
use Rattle.eif_registers.specs.Registers.{as_digest}
use Rattle.arriving_fingerprint.specs.declared.Finished.{Finished}
use Rattle.eif_c.specs.Fingerprint.{flat_fingerprinting}
use Rattle.eif_c.specs.declared.fingerprint.EifFingerprintingFinished.{EifFingerprintingFinished}
use Rattle.eif_c.proofs.fingerprint.eif_fingerprinting_finish.Goals as goal

-- `eif_fingerprinting_finish` meets its contract: the answer at the end, with its reading made flat.
abbrev with : Finished → EifReading → EifFingerprintingFinished
with f r = record { state = f.state; reading = r; digest = as_digest f.digest }

pub returns : goal.returns
returns c = ap (with c.finish-done.result) c.flat_reading.ensures ∙ ap flat_fingerprinting c.finish-done.ensures
