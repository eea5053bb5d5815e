use mathlib.Core.Path.{refl, sym, ap, ◌∙◌}
use native.Mathlib.Omega.{arith}
use mathlib.Core.List.{[], ◌∷◌}
use Rattle.octets.specs.Over.{over}
use Rattle.octets.proofs.Over.{over_joined}
use Rattle.cose.specs.Cbor.{unsigned, in_one_byte}
use Rattle.cose_lemmas.proofs.Head.{own_one, head_two, size_one, size_two}
use Rattle.cose_writer.proofs.put_small.Goals as goal
use Rattle.cose_writer.proofs.put_small.Goals.{After-put_byte, After-put_byte-2, After-put_byte-then-n-ge-IN_ONE_BYTE}

-- `cose_writer::put_small` meets its contract: one of the two forms. Assumes nothing.
pub returns-then-n-ge-IN_ONE_BYTE : goal.returns-then-n-ge-IN_ONE_BYTE
returns-then-n-ge-IN_ONE_BYTE c = let z = (goal.at.returns-then-n-ge-IN_ONE_BYTE c).After-put_byte-then-n-ge-IN_ONE_BYTE in
    let x = (goal.at.After-put_byte-then-n-ge-IN_ONE_BYTE z).After-put_byte in
    let a = x.args in
    let e = size_two a.n (omega arith) (omega arith) in
    let d = a.out.now in record {
      value = omega arith;
      upper_bound = omega arith;
      out_after = over_joined d a.at (in_one_byte ∷ []) (a.n ∷ []) x.put_byte.ensures z.put_byte-then-n-ge-IN_ONE_BYTE.ensures refl
          ∙ ap (over d a.at) (sym (head_two unsigned a.n (omega arith) (omega arith)));
    }

pub returns : goal.returns
returns c = let x = (goal.at.returns c).After-put_byte-2 in
    let a = x.args in
    let e = size_one a.n (omega arith) in
    record { value = omega arith; upper_bound = omega arith; out_after = x.put_byte-2.ensures ∙ ap (over a.out.now a.at) (sym (own_one a.n (omega arith))) }
