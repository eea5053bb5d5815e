use mathlib.Core.Path.{refl, sym, ap, ◌∙◌}
use native.Mathlib.Omega.{arith}
use mathlib.Core.List.{[], ◌∷◌}
use Rattle.octets.specs.Over.{over}
use Rattle.octets.proofs.Over.{over_joined}
use Rattle.octets.specs.Bytes.{be_bytes}
use Rattle.cose.specs.Cbor.{unsigned, in_two_bytes, in_four_bytes, in_eight_bytes}
use Rattle.cose_lemmas.proofs.Head.{head_three, head_five, head_nine, size_three, size_five, size_nine}
use Rattle.cose_writer.proofs.put_number.Goals as goal
use Rattle.cose_writer.proofs.put_number.Goals.{After-put_be16, After-put_be32, After-put_be64, After-put_byte, After-put_byte-2, After-put_byte-then-n-lt-FOUR_BYTE_LIMIT}

-- `cose_writer::put_number` meets its contract: one of the five forms. Assumes nothing.
pub returns-then-n-lt-ONE_BYTE_LIMIT : goal.returns-then-n-lt-ONE_BYTE_LIMIT
returns-then-n-lt-ONE_BYTE_LIMIT c = let e = c.put_small.ensures in record { value = e.value; upper_bound = omega arith; out_after = e.out_after }

pub returns-then-n-lt-TWO_BYTE_LIMIT : goal.returns-then-n-lt-TWO_BYTE_LIMIT
returns-then-n-lt-TWO_BYTE_LIMIT c = let z = (goal.at.returns-then-n-lt-TWO_BYTE_LIMIT c).After-put_be16 in
    let x = (goal.at.After-put_be16 z).After-put_byte in
    let a = x.args in
    let e = size_three a.n (omega arith) (omega arith) in
    let d = a.out.now in record {
      value = omega arith;
      upper_bound = omega arith;
      out_after = over_joined d a.at (in_two_bytes ∷ []) (be_bytes 2 a.n) x.put_byte.ensures z.put_be16.ensures refl
          ∙ ap (over d a.at) (sym (head_three unsigned a.n (omega arith) (omega arith)));
    }

pub returns-then-n-lt-FOUR_BYTE_LIMIT : goal.returns-then-n-lt-FOUR_BYTE_LIMIT
returns-then-n-lt-FOUR_BYTE_LIMIT c = let z = (goal.at.returns-then-n-lt-FOUR_BYTE_LIMIT c).After-put_be32 in
    let x = (goal.at.After-put_be32 z).After-put_byte-then-n-lt-FOUR_BYTE_LIMIT in
    let a = x.args in
    let e = size_five a.n (omega arith) (omega arith) in
    let d = a.out.now in record {
      value = omega arith;
      upper_bound = omega arith;
      out_after = over_joined d a.at (in_four_bytes ∷ []) (be_bytes 4 a.n) x.put_byte-then-n-lt-FOUR_BYTE_LIMIT.ensures z.put_be32.ensures refl
          ∙ ap (over d a.at) (sym (head_five unsigned a.n (omega arith) (omega arith)));
    }

pub returns : goal.returns
returns c = let z = (goal.at.returns c).After-put_be64 in
    let x = (goal.at.After-put_be64 z).After-put_byte-2 in
    let a = x.args in
    let e = size_nine a.n (omega arith) in
    let d = a.out.now in record {
      value = omega arith;
      upper_bound = omega arith;
      out_after = over_joined d a.at (in_eight_bytes ∷ []) (be_bytes 8 a.n) x.put_byte-2.ensures z.put_be64.ensures refl
          ∙ ap (over d a.at) (sym (head_nine unsigned a.n (omega arith)));
    }
