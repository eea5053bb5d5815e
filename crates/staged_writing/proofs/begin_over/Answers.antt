use mathlib.Core.Path.{◌≡◌, sym, ap, ◌∙◌}
use Rattle.eif.specs.Plan.{plan_of}
use Rattle.eif.specs.declared.Plan.{Plan}
use Rattle.eif.specs.declared.Verdict.TheVariants.{Accepted}
use Rattle.staged.specs.Listed.{listed_verdict}
use Rattle.staged.specs.Staged.{with_place}
use Rattle.writing.specs.Writing.{writing_begun}
use Rattle.writing.specs.declared.Begun.{Begun}
use Rattle.staged_writing.specs.StagedWriting.{begun_with, refused_begun}
use Rattle.staged_writing.proofs.Begun.{begun_refused, plan_refused, begun_listed}
use Rattle.staged_writing.proofs.begin_over.Goals as goal
use Rattle.staged_writing.proofs.begin_over.Goals.{After-begin-begun, After-verdict_over-verdict}

-- `staged_writing::begin_over` meets its contract: the view's refusal, the plan's, or the state.
-- past the view's verdict
module _ (b : After-begin-begun) where
  abbrev told : After-verdict_over-verdict
  told = (goal.at.After-begin-begun b).After-verdict_over-verdict

  viewed : listed_verdict told.args.reading.now told.args.size told.args.replaced told.args.replaced ≡ Accepted
  viewed = sym told.verdict_over-verdict.ensures ∙ b.in-Accepted.is

  begun-is : b.begin-begun.result ≡ writing_begun (with_place (plan_of told.args.reading.now) told.args.replaced told.args.size) told.args.checksum
  begun-is = b.begin-begun.ensures ∙ ap (λ (q : Plan). writing_begun q told.args.checksum) b.plan_over.ensures

pub returns-in_default : goal.returns-in_default
returns-in_default c = let t = c.in_default in
    let v = (goal.at.returns-in_default c).After-verdict_over-verdict in
    let a = v.args in
    c.refused.ensures ∙ ap refused_begun t.is ∙ begun_refused a.reading.now a.size a.replaced a.checksum t.field-0 (sym v.verdict_over-verdict.ensures ∙ t.is)

pub returns-in_default-planned : goal.returns-in_default-planned
returns-in_default-planned c = let t = c.in_default-planned in
    let b = (goal.at.returns-in_default-planned c).After-begin-begun in
    let a = (told b).args in
    c.refused-in_default-planned.ensures ∙ ap refused_begun t.is
    ∙ plan_refused a.reading.now a.size a.replaced a.checksum t.field-0 (viewed b) (ap (λ (x : Begun). x.written.verdict) (sym (begun-is b)) ∙ t.is)

pub returns : goal.returns
returns c = let b = (goal.at.returns c).After-begin-begun in
    let a = (told b).args in
    ap (λ (x : Begun). begun_with x.state a.replaced x.written) (begun-is b)
    ∙ begun_listed a.reading.now a.size a.replaced a.checksum (viewed b) (ap (λ (x : Begun). x.written.verdict) (sym (begun-is b)) ∙ c.in-Accepted-planned.is)
