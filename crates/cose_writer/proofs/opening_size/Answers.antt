use mathlib.Core.Path.{sym, ap}
use native.Mathlib.Omega.{arith}
use lib.ListN.{length}
use Rattle.cose_lemmas.proofs.Parts.{opening_first, opening_long}
use Rattle.cose_writer.proofs.opening_size.Goals as goal

-- `cose_writer::opening_size` meets its contract: with the first algorithm it is one byte shorter than with the others. Assumes nothing.
pub returns-then-algorithm-eq-ES256 : goal.returns-then-algorithm-eq-ES256
returns-then-algorithm-eq-ES256 c = record { value = sym (ap length (opening_first c.args.algorithm (omega arith))); upper_bound = omega arith }

pub returns-else-algorithm-eq-ES256 : goal.returns-else-algorithm-eq-ES256
returns-else-algorithm-eq-ES256 c = record { value = opening_long c.args.algorithm (omega arith) (λ e. omega arith); upper_bound = omega arith }
