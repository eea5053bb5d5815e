use Prim.Native.Nat.{min}
use mathlib.Core.Path.{sym, ◌∙◌}
use mathlib.Core.List.{◌++◌}
use native.Mathlib.Omega.{arith}
use native.Mathlib.Nat.{zero-add}
use lib.ListN.{length, take}
use Rattle.octets.proofs.Over.{over_joined}
use Rattle.eif.specs.Numbers.{place_count}
use Rattle.eif_lines.specs.Lines.{head_line, row_lines, accepted_lines}
use Rattle.eif_lines.proofs.Parts.{ends, text_filled, text_counts}
use Rattle.eif_lines.proofs.accepted.Goals as goal

-- `eif_lines::accepted` meets its contract: the head line over the start of an empty buffer, and the rows from where it ends. Assumes nothing.
pub returns : goal.returns
unfolding accepted_lines
returns c = let a = c.args.reading in
    let h = head_line a.version a.count in
    let t = row_lines 0 (take (min a.count place_count) a.sections) in
    let p = c.put_head-rows_at.ensures in
    let q = c.put_rows-length.ensures in
    let e = c.empty-bytes.ensures in
    let begun = p.value ∙ sym (zero-add (length h)) in
    let put = over_joined _ 0 h t p.out_after q.out_after (sym begun) in
    let ended = ends 0 h t begun q.value ∙ zero-add (length (h ++ t)) in
    record { value = text_filled _ (h ++ t) _ _ e put ended (omega arith); prefix_len = text_counts _ (h ++ t) _ _ e put ended (omega arith) }
