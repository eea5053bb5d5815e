use mathlib.Core.Path.{sym, ◌∙◌}
use Rattle.staged.proofs.Listed.{reading_refused, too_many, no_replaced, no_shown, over_limit, view_fine}
use Rattle.staged_view.proofs.verdict_listed.Goals as goal
use Rattle.staged_view.proofs.verdict_listed.Goals.{After-refuse-no_such, After-too_long, Then-count}

-- `staged_view::verdict_listed` meets its contract: its tests are the definition's, in the same order.
pub returns-in_default : goal.returns-in_default
returns-in_default c = let a = c.args in
    let t = c.in_default in
    t.is ∙ reading_refused a.reading a.size a.replaced a.shown t.field-0 t.is

pub returns-then-count : goal.returns-then-count
returns-then-count c = let i = (goal.at.returns-then-count c).Then-count in
    let a = i.args in
    c.refuse.ensures ∙ too_many a.reading a.size a.replaced a.shown i.in-Accepted.is i.if-count.true

pub returns-then-count-replaced : goal.returns-then-count-replaced
returns-then-count-replaced c = let n = (goal.at.returns-then-count-replaced c).After-refuse-no_such in
    let a = n.args in
    n.refuse-no_such.ensures
    ∙ no_replaced a.reading a.size a.replaced a.shown c.in-Accepted.is c.if-count.false c.if-count-replaced.true

pub returns-then-count-shown : goal.returns-then-count-shown
returns-then-count-shown c = let n = (goal.at.returns-then-count-shown c).After-refuse-no_such in
    let a = n.args in
    n.refuse-no_such.ensures
    ∙ no_shown a.reading a.size a.replaced a.shown c.in-Accepted.is c.if-count.false
    c.if-count-replaced.false c.if-count-shown.true

pub returns-then-too_long : goal.returns-then-too_long
returns-then-too_long c = let l = (goal.at.returns-then-too_long c).After-too_long in
    let a = l.args in
    c.refuse-then-too_long.ensures
    ∙ over_limit a.reading a.size a.replaced a.shown l.in-Accepted.is
    l.if-count.false l.if-count-replaced.false l.if-count-shown.false (sym c.if-too_long.true ∙ l.too_long.ensures)

pub returns : goal.returns
returns c = let l = (goal.at.returns c).After-too_long in
    let a = l.args in
    view_fine a.reading a.size a.replaced a.shown l.in-Accepted.is
    l.if-count.false l.if-count-replaced.false l.if-count-shown.false (sym c.if-too_long.false ∙ l.too_long.ensures)
