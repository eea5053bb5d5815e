use Prim.Native.Nat.{◌<◌, min}
use mathlib.Core.Path.{sym, ap, ap₂, ◌∙◌}
use native.Mathlib.Omega.{arith}
use Rattle.eif.specs.Numbers.{place_count}
use Rattle.eif.specs.Reading.{section_in}
use Rattle.eif.specs.declared.Verdict.TheVariants.{Accepted}
use Rattle.staged.specs.View.{place_for}
use Rattle.staged.proofs.Listed.{listed_in, lies_refused, lies_replaced, lies_kept}
use Rattle.staged_view.proofs.place_listed.Goals as goal
use Rattle.staged_view.proofs.place_listed.Goals.{After-verdict_listed-verdict, In-Accepted}

-- `staged_view::place_listed` meets its contract: the refusal, the replacement, or what the reading says.
pub returns-in_default : goal.returns-in_default
returns-in_default c = let v = (goal.at.returns-in_default c).After-verdict_listed-verdict in
    let a = v.args in
    let t = c.in_default in
    rw t.is (lies_refused a.reading a.end a.size a.replaced a.shown t.field-0 (sym v.verdict_listed-verdict.ensures ∙ t.is))

pub returns-then-shown-replaced : goal.returns-then-shown-replaced
returns-then-shown-replaced c = let v = (goal.at.returns-then-shown-replaced c).After-verdict_listed-verdict in
    let a = v.args in
    let t = c.in-Accepted.is in
    rw t (lies_replaced a.reading a.end a.size a.replaced a.shown (sym v.verdict_listed-verdict.ensures ∙ t) c.if-shown-replaced.true)

in-places : (c : In-Accepted) → c.args.shown < place_count
in-places c =
    let v = (goal.at.In-Accepted c).After-verdict_listed-verdict in
    let a = v.args in
    (listed_in a.reading a.size a.replaced a.shown (sym v.verdict_listed-verdict.ensures ∙ c.in-Accepted.is)).1

pub offset_bounds-sections-at : goal.offset_bounds-sections-at
offset_bounds-sections-at c = let h = in-places (goal.at.offset_bounds-sections-at c).In-Accepted in omega arith

pub returns : goal.returns
returns c = let a = c.args in
    let t = c.in-Accepted.is in
    let x = section_in a.reading.sections a.shown in
    rw t
    (ap₂ (place_for Accepted 0) c.lesser-start.ensures (c.lesser-held.ensures ∙ ap (min x.length.0) c.past-rest.ensures)
    ∙ lies_kept a.reading a.end a.size a.replaced a.shown (sym c.verdict_listed-verdict.ensures ∙ t) c.if-shown-replaced.false)

pub bounds-sections-at : goal.bounds-sections-at
bounds-sections-at c = in-places (goal.at.bounds-sections-at c).In-Accepted
