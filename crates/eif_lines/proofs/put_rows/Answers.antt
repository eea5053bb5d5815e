use Prim.Native.Nat.{ℕ, suc}
use mathlib.Core.Path.{◌≡◌, sym, ap, ap₂, ◌∙◌}
use mathlib.Core.List.{List}
use native.Mathlib.Omega.{arith}
use native.Mathlib.Numerals.{add-one}
use borrow.Author.Rules.{rules}
use lib.ListN.{length, take}
use Rattle.octets.specs.Over.{over}
use Rattle.octets.proofs.Over.{length_over}
use Rattle.eif.specs.Numbers.{place_count}
use Rattle.eif_lines.specs.Lines.{row_lines}
use Rattle.eif_lines.proofs.Parts.{row_at, rows_from, rows_none, rows_size, rows_over, rows_done}
use Rattle.eif_lines.proofs.put_rows.Goals as goal

-- `eif_lines::put_rows` meets its contract: the rows that are left, written from the position reached, make the whole. Assumes nothing.
pub loop-i-preserved : goal.loop-i-preserved
loop-i-preserved c = let p = c.put_row-at.ensures in
    let l = c.loop-i in
    let all = c.args.sections in
    let count = c.lesser-count.result in
    let places : length all ≡ place_count = search rules in
    let few = c.lesser-count.ensures in
    let e = rows_size all count l.i (omega arith) (omega arith) in
    rw add-one
    record {
      within = omega arith;
      room = omega arith;
      length_kept = ap length p.out_after ∙ length_over l.out l.at (row_at all l.i) ∙ l.invariant.length_kept;
      ending = omega arith;
      whole = ap₂ (λ (d : List ℕ) (n : ℕ). over d n (rows_from all count (suc l.i))) p.out_after p.value
          ∙ rows_over all count l.i (omega arith) (omega arith) l.out l.at ∙ l.invariant.whole;
    }

pub returns : goal.returns
returns c = let l = c.loop-i in
    let all = c.args.sections in
    let count = c.lesser-count.result in
    let places : length all ≡ place_count = search rules in
    let few = c.lesser-count.ensures in
    let none = ap length (rows_none all count l.i (omega arith) (omega arith)) in
    let whole = ap (λ (n : ℕ). row_lines 0 (take n all)) few in
    let n = ap length whole in
    record {
      value = omega arith;
      upper_bound = omega arith;
      out_after = sym (rows_done all count l.i (omega arith) (omega arith) l.out l.at) ∙ l.invariant.whole
          ∙ ap (over c.args.out.now c.args.from) whole;
    }
