use Prim.Native.Nat.{ℕ}
use mathlib.Core.Path.{◌≡◌, sym, ap, ap₂, ◌∙◌}
use Rattle.eif.specs.Plan.{plan_verdict, data_before}
use Rattle.eif.specs.declared.Plan.{Plan}
use Rattle.eif.specs.declared.Verdict.{Verdict}
use Rattle.eif.specs.declared.Written.{Written}
use Rattle.plan_judge.proofs.Planned.{verdict_is, length_refused, length_accepted}
use Rattle.plan_judge.proofs.length.Goals as goal
use Rattle.plan_judge.proofs.length.Goals.{After-judge-verdict}

-- `plan_judge::length` meets its contract: the plan is judged with the data that its image has. Assumes nothing.
module _ (c : After-judge-verdict) where
  abbrev plan : Plan
  plan = c.args.plan

  judged : c.judge-verdict.result ≡ plan_verdict plan (data_before plan.places plan.count)
  judged = c.judge-verdict.ensures ∙ ap (plan_verdict plan) c.data_size.ensures ∙ verdict_is plan

pub returns-in_default : goal.returns-in_default
returns-in_default c = let w = (goal.at.returns-in_default c).After-judge-verdict in
    let t = c.in_default in
    rw t.is (length_refused (plan w) t.field-0 (sym (judged w) ∙ t.is))

pub returns : goal.returns
returns c = let w = (goal.at.returns c).After-judge-verdict in
    let t = c.in-Accepted.is in
    ap₂ (λ (v : Verdict) (n : ℕ). answer v n) t c.image_size.ensures ∙ length_accepted (plan w) (sym (judged w) ∙ t)
  where
    answer : Verdict → ℕ → Written
    answer v n = record { verdict = v; length = n }
