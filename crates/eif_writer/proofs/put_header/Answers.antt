use mathlib.Core.Path.{ap, ◌∙◌}
use mathlib.Core.List.{List}
use Prim.Native.Nat.{ℕ}
use Rattle.octets.specs.Bytes.{be_bytes_each}
use Rattle.octets.specs.Over.{over}
use Rattle.eif.specs.Layout.{offsets_at, sizes_at, entry_size}
use Rattle.eif_writer.proofs.Image.{header_over}
use Rattle.eif.specs.Plan.{table_bytes}
use Rattle.eif_writer.proofs.put_header.Goals as goal
use Rattle.eif_writer.proofs.put_header.Goals.{After-put_be32, After-put_first, After-put_next, After-put_table, After-put_table-2}

-- `eif_writer::put_header` meets its contract: the parts are written one after the other, each from where the one
-- before it ends. Assumes nothing.
pub returns : goal.returns
unfolding table_bytes
returns c = let z = (goal.at.returns c).After-put_be32 in
    let y = (goal.at.After-put_be32 z).After-put_table-2 in
    let x = (goal.at.After-put_table-2 y).After-put_table in
    let w = (goal.at.After-put_table x).After-put_next in
    let v = (goal.at.After-put_next w).After-put_first in
    let a = v.args in
    header_over a.plan a.out.now v.put_first.new.out w.put_next.new.out x.put_table.new.out y.put_table-2.new.out z.put_be32.new.out
    v.put_first.ensures
    w.put_next.ensures
    (x.put_table.ensures ∙ ap (λ (t : List ℕ). over w.put_next.new.out offsets_at (be_bytes_each entry_size t)) v.offsets-at.ensures)
    (y.put_table-2.ensures ∙ ap (λ (t : List ℕ). over x.put_table.new.out sizes_at (be_bytes_each entry_size t)) v.sizes-long.ensures)
    z.put_be32.ensures
