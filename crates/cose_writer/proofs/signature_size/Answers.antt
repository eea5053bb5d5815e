use mathlib.Core.Path.{sym}
use native.Mathlib.Omega.{arith}
use Rattle.cose_lemmas.proofs.Parts.{size_256, size_384, size_512, size_other}
use Rattle.cose_writer.proofs.signature_size.Goals as goal

-- `cose_writer::signature_size` meets its contract: its tests are those of the definition. Assumes nothing.
pub returns-then-algorithm-eq-ES256 : goal.returns-then-algorithm-eq-ES256
returns-then-algorithm-eq-ES256 c = record { value = sym (size_256 c.args.algorithm (omega arith)); upper_bound = omega arith }

pub returns-then-algorithm-eq-ES384 : goal.returns-then-algorithm-eq-ES384
returns-then-algorithm-eq-ES384 c = record { value = sym (size_384 c.args.algorithm (omega arith)); upper_bound = omega arith }

pub returns-then-algorithm-eq-ES512 : goal.returns-then-algorithm-eq-ES512
returns-then-algorithm-eq-ES512 c = record { value = sym (size_512 c.args.algorithm (omega arith)); upper_bound = omega arith }

pub returns : goal.returns
returns c = record { value = sym (size_other c.args.algorithm (λ e. omega arith) (λ e. omega arith) (λ e. omega arith)); upper_bound = omega arith }
