use mathlib.Core.Path.{sym}
use native.Mathlib.Omega.{arith}
use Rattle.cose_lemmas.proofs.Numbers.{byte_end_one, byte_end_two}
use Rattle.cose_reader.proofs.byte_end.Goals as goal

-- `cose_reader::byte_end` meets its contract: one of the two forms. Assumes nothing.
pub returns-then-byte-lt-IN_ONE_BYTE : goal.returns-then-byte-lt-IN_ONE_BYTE
returns-then-byte-lt-IN_ONE_BYTE c = let a = c.args in record { value = sym (byte_end_one a.s.now a.at (omega arith)); upper_bound = omega arith }

pub returns-else-byte-lt-IN_ONE_BYTE : goal.returns-else-byte-lt-IN_ONE_BYTE
returns-else-byte-lt-IN_ONE_BYTE c = let a = c.args in record { value = sym (byte_end_two a.s.now a.at (omega arith)); upper_bound = omega arith }
