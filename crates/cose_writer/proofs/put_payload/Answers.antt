use mathlib.Core.Path.{refl, sym, ap, ◌∙◌}
use mathlib.Core.List.{◌++◌}
use native.Mathlib.Omega.{arith}
use Rattle.octets.specs.Over.{over}
use Rattle.octets.proofs.Over.{over_joined}
use Rattle.cose.specs.Cbor.{unsigned, head_bytes, numbers_bytes}
use Rattle.cose_lemmas.proofs.Parts.{before_index, before_value, payload_parts, payload_size}
use Rattle.cose_writer.proofs.put_payload.Goals as goal

-- `cose_writer::put_payload` meets its contract: each part starts where the one before it ends. Assumes nothing.
pub returns : goal.returns
returns c = let a = c.args in
    let d = a.out.now in
    let h = head_bytes unsigned a.index in
    let v = numbers_bytes a.value in
    let size = payload_size a.index a.value in
    let n = c.put_number-next.ensures in
    let p = c.put_values.ensures in record {
      value = omega arith;
      upper_bound = omega arith;
      out_after = over_joined d a.at before_index (h ++ (before_value ++ v)) c.copy.ensures
          (over_joined _ _ h (before_value ++ v) n.out_after
          (over_joined _ _ before_value v c.copy-2.ensures p.out_after refl) (sym n.value)) refl
          ∙ ap (over d a.at) (sym (payload_parts a.index a.value));
    }
