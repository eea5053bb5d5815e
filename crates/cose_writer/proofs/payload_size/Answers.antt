use native.Mathlib.Omega.{arith}
use Rattle.cose_lemmas.proofs.Parts.{payload_size}
use Rattle.cose_writer.proofs.payload_size.Goals as goal

-- `cose_writer::payload_size` meets its contract: the sum of its parts. Assumes nothing.
pub returns : goal.returns
returns c = let a = c.args in
    let e = payload_size a.index a.value in
    record { value = omega arith; lower_bound = (omega arith, omega arith) }
