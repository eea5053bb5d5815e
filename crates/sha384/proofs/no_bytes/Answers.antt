use mathlib.Core.Path.{refl}
use Rattle.sha384.specs.State.{no_bytes}
use Rattle.sha384.proofs.no_bytes.Goals as goal

-- `sha384::no_bytes` meets its contract: it is the definition. Assumes nothing.
pub returns : goal.returns
unfolding no_bytes
returns c = refl
