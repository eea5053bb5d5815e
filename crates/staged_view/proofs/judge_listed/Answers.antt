use Prim.Native.Nat.{◌<◌}
use mathlib.Core.Path.{sym, ap, ◌∙◌}
use native.Mathlib.Omega.{arith}
use lib.ListN.{set}
use Rattle.eif.specs.Numbers.{place_count}
use Rattle.eif.specs.declared.Section.{Section}
use Rattle.eif.specs.declared.Verdict.TheVariants.{Accepted}
use Rattle.staged.specs.View.{blank_staged, staged_sections, staged_for}
use Rattle.staged.proofs.Listed.{listed_in, view_refused, view_accepted}
use Rattle.staged_view.proofs.judge_listed.Goals as goal
use Rattle.staged_view.proofs.judge_listed.Goals.{After-verdict_listed-verdict, In-Accepted}

-- `staged_view::judge_listed` meets its contract: a refusal, or the sections with one of them moved.
pub returns-in_default : goal.returns-in_default
returns-in_default c = let v = (goal.at.returns-in_default c).After-verdict_listed-verdict in
    let a = v.args in
    let t = c.in_default in
    c.refused.ensures ∙ ap blank_staged t.is
    ∙ view_refused a.reading a.end a.size a.replaced a.shown t.field-0 (sym v.verdict_listed-verdict.ensures ∙ t.is)

-- the replaced section has a place
in-places : (c : In-Accepted) → c.args.replaced < place_count
in-places c =
    let v = (goal.at.In-Accepted c).After-verdict_listed-verdict in
    let a = v.args in
    (listed_in a.reading a.size a.replaced a.shown (sym v.verdict_listed-verdict.ensures ∙ c.in-Accepted.is)).0

pub offset_bounds-sections-k : goal.offset_bounds-sections-k
offset_bounds-sections-k c = let h = in-places (goal.at.offset_bounds-sections-k c).In-Accepted in omega arith

pub offset_bounds-sections-k-2 : goal.offset_bounds-sections-k-2
offset_bounds-sections-k-2 c = let h = in-places (goal.at.offset_bounds-sections-k-2 c).In-Accepted in omega arith

pub returns : goal.returns
unfolding staged_sections
returns c = let e = (goal.at.returns c).In-Accepted in
    let v = (goal.at.In-Accepted e).After-verdict_listed-verdict in
    let a = v.args in
    ap (λ (x : Section). staged_for Accepted a.reading.flags (set a.reading.sections a.replaced x)) c.moved_to.ensures
    ∙ view_accepted a.reading a.end a.size a.replaced a.shown (sym v.verdict_listed-verdict.ensures ∙ e.in-Accepted.is)

pub bounds-sections-k : goal.bounds-sections-k
bounds-sections-k c = in-places (goal.at.bounds-sections-k c).In-Accepted

pub bounds-sections-k-2 : goal.bounds-sections-k-2
bounds-sections-k-2 c = in-places (goal.at.bounds-sections-k-2 c).In-Accepted
