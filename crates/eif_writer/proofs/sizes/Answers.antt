use Prim.Native.Nat.{ℕ}
use mathlib.Core.Path.{◌≡◌, refl, ap, ◌∙◌}
use mathlib.Core.List.{List}
use native.Mathlib.Omega.{arith}
use native.Mathlib.Numerals.{add-one}
use lib.ListN.{set}
use Rattle.eif.specs.Numbers.{place_count}
use Rattle.eif.specs.Plan.{planned_size, table_of}
use Rattle.eif_lemmas.proofs.Table.{filled_more}
use Rattle.eif_writer.proofs.sizes.Goals as goal

-- `eif_writer::sizes` meets its contract: after i turns the first i entries are in place. Assumes nothing.
pub loop-i-init : goal.loop-i-init
loop-i-init c = (omega arith, refl)

pub loop-i-preserved : goal.loop-i-preserved
loop-i-preserved c = let f = planned_size c.args.places in
    let l = c.loop-i in
    rw add-one (omega arith, ap (λ (x : List ℕ). set x l.i (f l.i)) l.invariant.1 ∙ filled_more f 0 place_count l.i (omega arith))

pub returns : goal.returns
returns c = let a = c.args in
    let z : c.loop-i.i ≡ a.count = omega arith in
    c.loop-i.invariant.1 ∙ ap (table_of (planned_size a.places)) z
