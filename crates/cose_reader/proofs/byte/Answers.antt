use mathlib.Core.Path.{sym}
use lib.ListN.{get_or-eq_default}
use Rattle.cose_reader.proofs.byte.Goals as goal

-- `cose_reader::byte` meets its contract: past the end it is 0. Assumes nothing.
pub returns-else-at-s : goal.returns-else-at-s
returns-else-at-s c = sym (get_or-eq_default c.args.s.now 0 c.if-at-s.false)
