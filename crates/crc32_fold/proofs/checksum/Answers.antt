use mathlib.Core.Path.{ap, ◌∙◌}
use lib.Bits.{bit_xor}
use Rattle.crc32.specs.Crc.{crc32, ones32}
use Rattle.crc32_fold.proofs.checksum.Goals as goal

-- `crc32_fold::checksum` meets its contract: the definition is the update from all ones, inverted. Assumes nothing.
pub returns : goal.returns
unfolding crc32
returns c = c.finish.ensures ∙ ap (bit_xor ones32) c.update.ensures
