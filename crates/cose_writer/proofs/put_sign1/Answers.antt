use Prim.Native.Nat.{ℕ}
use mathlib.Core.Path.{sym, ap, ◌∙◌}
use mathlib.Core.List.{◌++◌}
use native.Mathlib.Omega.{arith}
use lib.ListN.{length}
use Rattle.octets.specs.Over.{over}
use Rattle.octets.proofs.Over.{over_joined}
use native.Mathlib.Nat.{zero-add}
use Rattle.cose.specs.Cbor.{byte_string, head_bytes, string_bytes}
use Rattle.cose.specs.Sign1.{payload_bytes}
use Rattle.cose_lemmas.proofs.Head.{head_two}
use Rattle.cose_lemmas.specs.Opening.{opening}
use Rattle.cose_lemmas.proofs.Parts.{sign_parts}
use Rattle.cose_writer.proofs.put_sign1.Goals as goal
use Rattle.cose_writer.proofs.put_sign1.Goals.{After-payload_size-size, After-put_opening-open, After-put_payload-next, After-put_signature, After-put_string_head-from}

-- `cose_writer::put_sign1` meets its contract: each part starts where the one before it ends. Assumes nothing.
pub returns : goal.returns
returns c = let z = (goal.at.returns c).After-put_signature in
    let y = (goal.at.After-put_signature z).After-put_payload-next in
    let x = (goal.at.After-put_payload-next y).After-put_string_head-from in
    let w = (goal.at.After-put_string_head-from x).After-put_opening-open in
    let m = (goal.at.After-put_opening-open w).After-payload_size-size in
    let a = m.args in
    let d = a.out.now in
    let s = a.signature.now in
    let p = payload_bytes a.claim.register_index a.claim.register_value in
    let n = m.payload_size-size.ensures.value in
    let e = ap length (head_two byte_string (length p) (omega arith) (omega arith)) in
    let f = w.put_opening-open.ensures in
    let g = x.put_string_head-from.ensures in
    let h = y.put_payload-next.ensures in
    over_joined d 0 (opening a.claim.algorithm) (head_bytes byte_string (length p) ++ (p ++ string_bytes byte_string s)) f.out_after
    (over_joined _ _ (head_bytes byte_string (length p)) (p ++ string_bytes byte_string s) (g.out_after ∙ ap (λ (k : ℕ). over w.put_opening-open.new.out w.put_opening-open.result (head_bytes byte_string k)) n)
    (over_joined _ _ p (string_bytes byte_string s) h.out_after z.put_signature.ensures (sym h.value)) (omega arith))
    (zero-add (length (opening a.claim.algorithm)) ∙ sym f.value)
    ∙ ap (over d 0) (sym (sign_parts a.claim s))
