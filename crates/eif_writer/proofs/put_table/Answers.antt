use Prim.Native.Nat.{ℕ, suc, ◌+◌, ◌*◌}
use mathlib.Core.Path.{◌≡◌, refl, sym, ap, ap₂, ◌∙◌}
use mathlib.Core.List.{List}
use native.Mathlib.Omega.{arith}
use native.Mathlib.Numerals.{add-one}
use native.Mathlib.Nat.{add-zero}
use borrow.Author.Rules.{rules}
use lib.ListN.{length, drop, get_or}
use Rattle.octets.specs.Bytes.{be_bytes, be_bytes_each}
use Rattle.octets.specs.Over.{over}
use Rattle.octets.proofs.Over.{length_over}
use Rattle.octets.proofs.Each.{each_over, joined_done}
use Rattle.eif.specs.Numbers.{place_count}
use Rattle.eif.specs.Layout.{entry_size}
use Rattle.eif_writer.proofs.put_table.Goals as goal

-- `eif_writer::put_table` meets its contract: what is left of the table, written from the position reached, makes the
-- whole. Assumes nothing.
pub loop-i-init : goal.loop-i-init
loop-i-init c = let a = c.args in
    (omega arith, refl, ap (λ (x : ℕ). over a.out.now x (be_bytes_each entry_size a.table)) (add-zero a.at))

pub loop-i-preserved : goal.loop-i-preserved
loop-i-preserved c = let a = c.args in
    let l = c.loop-i in
    let p = c.put_be64 in
    let size : length a.table ≡ place_count = search rules in
    let z : a.at + entry_size * suc l.i ≡ a.at + entry_size * l.i + entry_size = omega arith in
    rw add-one (
      omega arith,
      ap length p.ensures ∙ length_over l.out (a.at + entry_size * l.i) (be_bytes entry_size (get_or a.table l.i 0)) ∙ l.invariant.1,
      ap₂ (λ (x : List ℕ) (y : ℕ). over x y (be_bytes_each entry_size (drop (suc l.i) a.table))) p.ensures z
          ∙ each_over entry_size a.table l.i (omega arith) l.out (a.at + entry_size * l.i) ∙ l.invariant.2,
    )

pub returns : goal.returns
returns c = let a = c.args in
    let l = c.loop-i in
    let size : length a.table ≡ place_count = search rules in
    sym (joined_done (be_bytes entry_size) a.table 0 l.i (omega arith) l.out (a.at + entry_size * l.i)) ∙ l.invariant.2

pub shape_of-out : goal.shape_of-out
shape_of-out c = c.loop-i.invariant.1
