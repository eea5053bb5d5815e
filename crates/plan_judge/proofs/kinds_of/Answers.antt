use Prim.Native.Nat.{ℕ}
use mathlib.Core.Path.{◌≡◌, refl, ap, ◌∙◌}
use mathlib.Core.List.{List}
use native.Mathlib.Omega.{arith}
use native.Mathlib.Numerals.{add-one}
use lib.ListN.{set}
use Rattle.eif.specs.Numbers.{place_count}
use Rattle.eif.specs.Table.{filled}
use Rattle.eif.specs.Plan.{planned_kind}
use Rattle.eif_lemmas.proofs.Table.{filled_more}
use Rattle.plan_judge.specs.Types.{kinds_of}
use Rattle.plan_judge.proofs.kinds_of.Goals as goal

-- `plan_judge::kinds_of` meets its contract: after i turns the first i types are in place. Assumes nothing.
pub loop-i-preserved : goal.loop-i-preserved
loop-i-preserved c = let f = planned_kind c.args.places in
    let l = c.loop-i in
    rw add-one (omega arith, ap (λ (x : List ℕ). set x l.i (f l.i)) l.invariant.1 ∙ filled_more f 0 place_count l.i (omega arith))

pub returns : goal.returns
unfolding kinds_of
returns c = let z : c.loop-i.i ≡ place_count = omega arith in
    c.loop-i.invariant.1 ∙ ap (filled (planned_kind c.args.places) 0 place_count) z

pub loop-i-init : goal.loop-i-init
loop-i-init c = (omega arith, refl)
