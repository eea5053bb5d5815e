use native.Mathlib.Omega.{arith}
use Rattle.cose_lemmas.proofs.Head.{size_one, size_two}
use Rattle.cose_writer.proofs.small_size.Goals as goal

-- `cose_writer::small_size` meets its contract: one of the two forms. Assumes nothing.
pub returns-then-n-lt-IN_ONE_BYTE : goal.returns-then-n-lt-IN_ONE_BYTE
returns-then-n-lt-IN_ONE_BYTE c = record { value = size_one c.args.n (omega arith); lower_bound = (omega arith, omega arith) }

pub returns-else-n-lt-IN_ONE_BYTE : goal.returns-else-n-lt-IN_ONE_BYTE
returns-else-n-lt-IN_ONE_BYTE c = record { value = size_two c.args.n (omega arith) (omega arith); lower_bound = (omega arith, omega arith) }
