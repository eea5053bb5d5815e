use native.Mathlib.Omega.{arith}
use Rattle.cose_lemmas.proofs.Head.{size_three, size_five, size_nine}
use Rattle.cose_writer.proofs.number_size.Goals as goal

-- `cose_writer::number_size` meets its contract: one of the five forms. Assumes nothing.
pub returns-then-n-lt-ONE_BYTE_LIMIT : goal.returns-then-n-lt-ONE_BYTE_LIMIT
returns-then-n-lt-ONE_BYTE_LIMIT c = let e = c.small_size.ensures in record { value = e.value; upper_bound = omega arith }

pub returns-then-n-lt-TWO_BYTE_LIMIT : goal.returns-then-n-lt-TWO_BYTE_LIMIT
returns-then-n-lt-TWO_BYTE_LIMIT c = record { value = size_three c.args.n (omega arith) (omega arith); upper_bound = omega arith }

pub returns-then-n-lt-FOUR_BYTE_LIMIT : goal.returns-then-n-lt-FOUR_BYTE_LIMIT
returns-then-n-lt-FOUR_BYTE_LIMIT c = record { value = size_five c.args.n (omega arith) (omega arith); upper_bound = omega arith }

pub returns : goal.returns
returns c = record { value = size_nine c.args.n (omega arith); upper_bound = omega arith }
