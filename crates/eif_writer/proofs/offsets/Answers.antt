use Prim.Native.Nat.{ℕ}
use mathlib.Core.Path.{◌≡◌, refl, sym, ap, ap₂, ◌∙◌}
use mathlib.Core.List.{List}
use native.Mathlib.Omega.{arith}
use native.Mathlib.Numerals.{add-one}
use lib.ListN.{set}
use Rattle.eif.specs.Numbers.{place_count}
use Rattle.eif.specs.Plan.{packed_at, table_of, planned_size}
use Rattle.eif_lemmas.proofs.Table.{filled_more}
use Rattle.plain_laws.proofs.Shape.{packed_suc, packed_zero}
use Rattle.eif_writer.proofs.Pieces.{ends_inside}
use Rattle.eif_writer.proofs.offsets.Goals as goal

-- `eif_writer::offsets` meets its contract: after i turns the first i entries are in place, and the position reached is
-- where section i starts. Assumes nothing.
pub loop-i-init : goal.loop-i-init
loop-i-init c = (omega arith, sym (packed_zero (planned_size c.args.places)), refl)

pub overflow_add-at : goal.overflow_add-at
overflow_add-at c = let h = ends_inside c.args.places c.args.count c.loop-i.i (omega arith) (omega arith) in
    omega arith

pub overflow_add-at-in-loop-i : goal.overflow_add-at-in-loop-i
overflow_add-at-in-loop-i c = let h = ends_inside c.args.places c.args.count c.loop-i.i (omega arith) (omega arith) in
    omega arith

pub loop-i-preserved : goal.loop-i-preserved
loop-i-preserved c = let f = packed_at c.args.places in
    let l = c.loop-i in
    let e = packed_suc (planned_size c.args.places) l.i in
    rw add-one (
      omega arith,
      omega arith,
      ap₂ (λ (x : List ℕ) (y : ℕ). set x l.i y) l.invariant.2 l.invariant.1 ∙ filled_more f 0 place_count l.i (omega arith),
    )

pub returns : goal.returns
returns c = let a = c.args in
    let z : c.loop-i.i ≡ a.count = omega arith in
    c.loop-i.invariant.2 ∙ ap (table_of (packed_at a.places)) z
