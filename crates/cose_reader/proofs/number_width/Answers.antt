use mathlib.Core.Path.{sym}
use native.Mathlib.Omega.{arith}
use Rattle.cose.specs.Read.{number_width}
use Rattle.cose_lemmas.proofs.Numbers.{width_own, width_eight}
use Rattle.cose_reader.proofs.number_width.Goals as goal

-- `cose_reader::number_width` meets its contract: its tests are those of the definition. Assumes nothing.
pub returns-then-first-lt-IN_ONE_BYTE : goal.returns-then-first-lt-IN_ONE_BYTE
returns-then-first-lt-IN_ONE_BYTE c = record { value = sym (width_own c.args.first c.if-first-lt-IN_ONE_BYTE.true); upper_bound = omega arith }

pub returns-then-first-eq-IN_ONE_BYTE : goal.returns-then-first-eq-IN_ONE_BYTE
unfolding number_width
returns-then-first-eq-IN_ONE_BYTE c = record { value = rw c.if-first-eq-IN_ONE_BYTE.true; upper_bound = omega arith }

pub returns-then-first-eq-IN_TWO_BYTES : goal.returns-then-first-eq-IN_TWO_BYTES
unfolding number_width
returns-then-first-eq-IN_TWO_BYTES c = record { value = rw c.if-first-eq-IN_TWO_BYTES.true; upper_bound = omega arith }

pub returns-then-first-eq-IN_FOUR_BYTES : goal.returns-then-first-eq-IN_FOUR_BYTES
unfolding number_width
returns-then-first-eq-IN_FOUR_BYTES c = record { value = rw c.if-first-eq-IN_FOUR_BYTES.true; upper_bound = omega arith }

pub returns : goal.returns
returns c = record { value = sym (width_eight c.args.first (omega arith)); upper_bound = omega arith }
