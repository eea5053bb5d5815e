use mathlib.Core.Path.{ap₂}
use Rattle.arriving_fingerprint.specs.Fingerprinting.{fingerprinting_of, fresh_fingerprinting}
use Rattle.arriving_fingerprint.proofs.begin.Goals as goal

-- `arriving_fingerprint::begin` meets its contract.
pub returns : goal.returns
unfolding fresh_fingerprinting
returns c = ap₂ fingerprinting_of c.begin-state.ensures c.new-none.ensures
