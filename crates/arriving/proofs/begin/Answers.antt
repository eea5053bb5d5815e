use mathlib.Core.Path.{refl}
use Rattle.eif.specs.Table.{join_from}
use Rattle.octets.specs.Bytes.{be_value, field}
use Rattle.crc32.specs.Crc.{crc_from}
use Rattle.arriving.specs.State.{padded, kept_from, headers_of, kept_of, state_of}
use Rattle.arriving.proofs.begin.Goals as goal

-- `arriving::begin` meets its contract: of no bytes nothing is kept, which is zero everywhere, and the remainder is the one to start from.
-- Assumes nothing.
pub returns : goal.returns
unfolding state_of kept_of padded headers_of crc_from join_from kept_from field be_value
returns c = refl
