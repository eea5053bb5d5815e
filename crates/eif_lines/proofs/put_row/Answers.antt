use Prim.Native.Nat.{ℕ, ◌+◌}
use mathlib.Core.Path.{◌≡◌, sym, ap, ◌∙◌}
use mathlib.Core.List.{List, ◌++◌}
use native.Mathlib.Omega.{arith}
use lib.ListN.{length}
use Rattle.octets.specs.Over.{over}
use Rattle.octets.proofs.Over.{over_joined}
use Rattle.eif_lines.specs.Lines.{number_then, space, line_feed, table_offset, row_line}
use Rattle.eif_lines.proofs.Parts.{ends}
use Rattle.eif_lines.proofs.put_row.Goals as goal

-- `eif_lines::put_row` meets its contract: each number starts where the part before it ends. Assumes nothing.
pub returns : goal.returns
unfolding row_line
returns c = let a = c.args in
    let s = a.section in
    let d = a.out.now in
    let i : List ℕ = number_then a.index space in
    let k : List ℕ = number_then s.kind space in
    let f : List ℕ = number_then (table_offset s) space in
    let n : List ℕ = number_then s.length.0 line_feed in
    let p = c.put_number-kind_at.ensures in
    let q = c.put_number-offset_at.ensures in
    let r = c.put_number-size_at.ensures in
    let t = c.put_number.ensures in
    let e = ap (λ (m : ℕ). number_then m space) c.table_offset-offset.ensures in
    let at = c.put_number-offset_at.result in
    let size : c.put_number-size_at.result ≡ at + length f = r.value ∙ ap (λ (l : List ℕ). at + length l) e in
    record {
      value = ends a.at i (k ++ (f ++ n)) p.value (ends _ k (f ++ n) q.value (ends _ f n size t.value));
      upper_bound = omega arith;
      out_after = over_joined d a.at i (k ++ (f ++ n)) p.out_after
          (over_joined _ _ k (f ++ n) q.out_after
          (over_joined _ _ f n (r.out_after ∙ ap (over c.put_number-offset_at.new.out at) e) t.out_after (sym size)) (sym q.value)) (sym p.value);
    }
