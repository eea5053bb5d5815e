use Rattle.crc32.specs.Crc.{crc_from}
use Rattle.arriving.specs.Calls.{answer_of}
use Rattle.arriving.proofs.answer.Goals as goal

-- `arriving::answer` meets its contract: what was kept is read by the rules, and nothing is left for its checksum to take in.
pub returns : goal.returns
unfolding answer_of crc_from
returns c = c.read.ensures
