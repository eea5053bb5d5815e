use mathlib.Core.Path.{ap}
use native.Mathlib.Omega.{arith}
use lib.ListN.{length}
use Rattle.octets.proofs.Over.{over_joined}
use Rattle.cose.specs.Cbor.{byte_string, head_bytes, string_bytes}
use Rattle.cose_lemmas.proofs.Head.{head_two}
use Rattle.cose_writer.proofs.put_signature.Goals as goal
use Rattle.cose_writer.proofs.put_signature.Goals.{After-copy, After-put_string_head-next}

-- `cose_writer::put_signature` meets its contract: a head and the bytes. Assumes nothing.
pub returns : goal.returns
unfolding string_bytes
returns c = let z = (goal.at.returns c).After-copy in
    let x = (goal.at.After-copy z).After-put_string_head-next in
    let a = x.args in
    let s = a.signature.now in
    let e = ap length (head_two byte_string (length s) (omega arith) (omega arith)) in
    over_joined a.out.now a.at (head_bytes byte_string (length s)) s x.put_string_head-next.ensures.out_after z.copy.ensures (omega arith)
