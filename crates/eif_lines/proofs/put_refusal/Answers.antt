use Prim.Native.Nat.{ℕ}
use mathlib.Core.Path.{refl, sym, ◌∙◌}
use mathlib.Core.List.{List, ◌++◌}
use native.Mathlib.Omega.{arith}
use native.Mathlib.Nat.{zero-add}
use lib.ListN.{length}
use Rattle.octets.proofs.Over.{over_joined}
use Rattle.eif_lines.specs.Lines.{refused_word, at_word, byte_word, number_then, refusal_then}
use Rattle.eif_lines.proofs.Parts.{ends}
use Rattle.eif_lines.proofs.put_refusal.Goals as goal

-- `eif_lines::put_refusal` meets its contract: each number starts where the part before it ends. Assumes nothing.
pub returns : goal.returns
unfolding refusal_then
returns c = let a = c.args in
    let d = a.out.now in
    let n : List ℕ = number_then a.r.number at_word in
    let i : List ℕ = number_then a.r.index byte_word in
    let b : List ℕ = number_then a.r.position a.text.now in
    let p = c.put_number-index_at.ensures in
    let q = c.put_number-position_at.ensures in
    let t = c.put_number.ensures in
    record {
      value = ends 0 refused_word (n ++ (i ++ b)) refl (ends _ n (i ++ b) p.value (ends _ i b q.value t.value))
          ∙ zero-add (length (refused_word ++ (n ++ (i ++ b))));
      upper_bound = omega arith;
      out_after = over_joined d 0 refused_word (n ++ (i ++ b)) c.copy.ensures
          (over_joined _ _ n (i ++ b) p.out_after (over_joined _ _ i b q.out_after t.out_after (sym q.value)) (sym p.value)) refl;
    }
