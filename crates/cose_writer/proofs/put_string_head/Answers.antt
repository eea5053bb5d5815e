use mathlib.Core.Path.{refl, sym, ap, ◌∙◌}
use native.Mathlib.Omega.{arith}
use mathlib.Core.List.{[], ◌∷◌}
use Rattle.octets.specs.Over.{over}
use Rattle.octets.proofs.Over.{over_joined}
use Rattle.cose.specs.Cbor.{byte_string}
use Rattle.cose_lemmas.proofs.Head.{head_two}
use Rattle.cose_writer.proofs.put_string_head.Goals as goal
use Rattle.cose_writer.proofs.put_string_head.Goals.{After-put_byte, After-put_byte-2}

-- `cose_writer::put_string_head` meets its contract: the second of the five forms. Assumes nothing.
pub returns : goal.returns
returns c = let z = (goal.at.returns c).After-put_byte-2 in
    let x = (goal.at.After-put_byte-2 z).After-put_byte in
    let a = x.args in
    let d = a.out.now in record {
      value = refl;
      out_after = over_joined d a.at (88 ∷ []) (a.size ∷ []) x.put_byte.ensures z.put_byte-2.ensures refl
          ∙ ap (over d a.at) (sym (head_two byte_string a.size (omega arith) (omega arith)));
    }
