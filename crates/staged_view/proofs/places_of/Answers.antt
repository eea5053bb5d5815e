use Prim.Native.Nat.{ℕ}
use mathlib.Core.Path.{◌≡◌, refl, sym, ap, ◌∙◌}
use mathlib.Core.List.{List}
use native.Mathlib.Omega.{arith}
use native.Mathlib.Numerals.{add-one}
use borrow.Author.Rules.{rules}
use lib.ListN.{length, set}
use Rattle.eif.specs.Numbers.{place_count}
use Rattle.eif.specs.Table.{filled}
use Rattle.eif.specs.Plan.{blank_place}
use Rattle.eif.specs.declared.Place.{Place}
use Rattle.eif_lemmas.proofs.Table.{filled_more}
use Rattle.staged_view.proofs.Places.{filled_places}
use Rattle.staged_view.proofs.places_of.Invariants.{at}
use Rattle.staged_view.proofs.places_of.Goals as goal

-- `staged_view::places_of` meets its contract: after i turns the first i places are those of the sections. Assumes nothing.
pub loop-i-preserved : goal.loop-i-preserved
loop-i-preserved c = let f = at c.args.sections in
    let l = c.loop-i in
    rw add-one (omega arith, ap (λ (x : List Place). set x l.i (f l.i)) l.invariant.1 ∙ filled_more f blank_place place_count l.i (omega arith))

pub returns : goal.returns
returns c = let s = c.args.sections in
    let z : c.loop-i.i ≡ place_count = omega arith in
    let n : length s ≡ place_count = search rules in
    c.loop-i.invariant.1 ∙ ap (filled (at s) blank_place place_count) z
    ∙ ap (λ (m : ℕ). filled (at s) blank_place m m) (sym n) ∙ filled_places s

pub loop-i-init : goal.loop-i-init
loop-i-init c = (omega arith, refl)
