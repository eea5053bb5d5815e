use Prim.Native.Nat.{ℕ}
use mathlib.Core.Path.{refl, sym, ◌∙◌}
use mathlib.Core.List.{List, ◌++◌}
use native.Mathlib.Omega.{arith}
use native.Mathlib.Nat.{zero-add}
use lib.ListN.{length}
use Rattle.octets.proofs.Over.{over_joined}
use Rattle.eif_lines.specs.Lines.{eif_word, number_then, space, line_feed, head_line}
use Rattle.eif_lines.proofs.Parts.{ends}
use Rattle.eif_lines.proofs.put_head.Goals as goal

-- `eif_lines::put_head` meets its contract: each number starts where the part before it ends. Assumes nothing.
pub returns : goal.returns
unfolding head_line
returns c = let a = c.args in
    let d = a.out.now in
    let v : List ℕ = number_then a.version space in
    let n : List ℕ = number_then a.count line_feed in
    let p = c.put_number-count_at.ensures in
    let q = c.put_number.ensures in
    record {
      value = ends 0 eif_word (v ++ n) refl (ends _ v n p.value q.value) ∙ zero-add (length (eif_word ++ (v ++ n)));
      upper_bound = omega arith;
      out_after = over_joined d 0 eif_word (v ++ n) c.copy.ensures (over_joined _ _ v n p.out_after q.out_after (sym p.value)) refl;
    }
