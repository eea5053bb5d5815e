use mathlib.Core.Path.{◌≡◌, sym, ap, ◌∙◌}
use Rattle.eif.specs.Plan.{data_before, plan_verdict, plan_length}
use Rattle.eif.specs.declared.Verdict.TheVariants.{Accepted}
use Rattle.eif.specs.declared.Written.{Written}
use Rattle.plain_laws.proofs.PlanRules.{planned→}
use Rattle.writing.specs.declared.Writing.{Writing}
use Rattle.writing.proofs.Steps.{begun_refused, begun_accepted}
use Rattle.writing.proofs.begin.Goals as goal
use Rattle.writing.proofs.begin.Goals.{After-length-written}

-- `writing::begin` meets its contract: the plan's verdict chooses between the two states.
pub returns-in_default : goal.returns-in_default
returns-in_default c = let t = c.in_default in
    let l = (goal.at.returns-in_default c).After-length-written in
    let a = l.args in
    ap (λ (s : Writing). record { state = s; written = l.length-written.result }) c.empty.ensures ∙ begun_refused a.plan a.checksum l.length-written.result t.field-0 l.length-written.ensures t.is

pub start-requires : goal.start-requires
unfolding plan_length
start-requires c = let l = (goal.at.start-requires c).After-length-written in
    let p = l.args.plan in
    let ok : plan_verdict p (data_before p.places p.count) ≡ Accepted = sym (ap (λ (w : Written). w.verdict) l.length-written.ensures) ∙ c.in-Accepted.is in
    let planned = planned→ p (data_before p.places p.count) ok in
    (planned.fields.few, planned.small)

pub returns : goal.returns
returns c = let t = c.in-Accepted in
    let l = (goal.at.returns c).After-length-written in
    let a = l.args in
    ap (λ (s : Writing). record { state = s; written = l.length-written.result }) c.start.ensures ∙ begun_accepted a.plan a.checksum l.length-written.result l.length-written.ensures t.is
