use mathlib.Core.Path.{sym, ◌∙◌}
use native.Mathlib.Omega.{arith}
use Rattle.cose_lemmas.proofs.Numbers.{byte_one, byte_two}
use Rattle.cose_reader.proofs.byte_at.Goals as goal

-- `cose_reader::byte_at` meets its contract: one of the two forms. Assumes nothing.
pub returns-then-b-lt-IN_ONE_BYTE : goal.returns-then-b-lt-IN_ONE_BYTE
returns-then-b-lt-IN_ONE_BYTE c = let a = c.args in c.byte-b.ensures ∙ sym (byte_one a.s.now a.at (omega arith))

pub returns-else-b-lt-IN_ONE_BYTE : goal.returns-else-b-lt-IN_ONE_BYTE
returns-else-b-lt-IN_ONE_BYTE c = let a = c.args in c.byte.ensures ∙ sym (byte_two a.s.now a.at (omega arith))
