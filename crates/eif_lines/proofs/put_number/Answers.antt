use Prim.Native.Nat.{◌+◌, ◌≤◌}
use mathlib.Core.Path.{◌≡◌, refl, sym, ap, ◌∙◌}
use native.Mathlib.Omega.{arith}
use lib.ListN.{length}
use Rattle.octets.specs.Over.{over}
use Rattle.octets.proofs.Over.{over_joined}
use Rattle.eif_lines.specs.Lines.{decimal_text, number_then, most_digits}
use Rattle.eif_lines.proofs.Decimal.{text_is, text_size, digits_fit}
use Rattle.eif_lines.proofs.Parts.{ends}
use Rattle.eif_lines.proofs.put_number.Goals as goal
use Rattle.eif_lines.proofs.put_number.Goals.{After-decimal-k}

-- `eif_lines::put_number` meets its contract: the digits, and the text from where they end. Assumes nothing.
few : (c : After-decimal-k) → c.decimal-k.result ≤ most_digits
few c = digits_fit c.args.n c.decimal-k.result c.decimal-k.ensures.len (omega arith)

pub overflow_add-at : goal.overflow_add-at
overflow_add-at c = let h = few (goal.at.overflow_add-at c).After-decimal-k in omega arith

pub overflow_add-result : goal.overflow_add-result
overflow_add-result c = let h = few (goal.at.overflow_add-result c).After-decimal-k in omega arith

pub overflow_add-result-2 : goal.overflow_add-result-2
overflow_add-result-2 c = let h = few (goal.at.overflow_add-result-2 c).After-decimal-k in omega arith

pub returns : goal.returns
unfolding number_then
returns c = let h = few (goal.at.returns c).After-decimal-k in
    let a = c.args in
    let d = a.out.now in
    let t = a.text.now in
    let k = c.decimal-k.result in
    let f = c.decimal-k.ensures in
    let n = text_size a.n k f.len in
    let s : a.at + k ≡ a.at + length (decimal_text a.n) = omega arith in
    record {
      value = ends a.at (decimal_text a.n) t s refl;
      upper_bound = omega arith;
      out_after = over_joined d a.at (decimal_text a.n) t (c.copy.ensures ∙ ap (over d a.at) (f.digits ∙ text_is a.n k f.len)) c.copy-2.ensures (sym s);
    }
