use mathlib.Core.Path.{refl}
use Rattle.crc32_lemmas.specs.Fold.{taps, up64}
use Rattle.crc32_fold.proofs.quotient.Goals as goal

-- `crc32_fold::quotient` meets its contract: the shifts are those of the definition.
-- Assumes nothing.
pub returns : goal.returns
unfolding taps up64
returns c = refl
