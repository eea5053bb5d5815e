use mathlib.Core.Path.{◌≡◌, sym, ◌∙◌}
use native.Mathlib.Omega.{arith}
use Rattle.eif.specs.Plan.{data_before}
use Rattle.plan_judge.proofs.Size.{data_some, size_over, size_differs, size_fine}
use Rattle.plan_judge.proofs.size_fault.Goals as goal
use Rattle.plan_judge.proofs.size_fault.Goals.{After-data_size}

-- `plan_judge::size_fault` meets its contract: an image's size is 0 exactly where it is over the limit. Assumes nothing.
pub returns-then-image_size-eq0 : goal.returns-then-image_size-eq0
returns-then-image_size-eq0 c = let a = c.args in
    let s = c.image_size in
    size_over a.plan s.result (omega arith) s.ensures a.given c.if-image_size-eq0.true

-- the size is not 0, and the data's size is known
module _ (c : After-data_size) where
  data_is : c.data_size.result ≡ data_before c.args.plan.places c.args.plan.count
  data_is =
      c.data_size.ensures
      ∙ sym (data_some c.args.plan (λ z. c.if-image_size-eq0.false (c.image_size.ensures ∙ z)))

pub returns-then-given-data_size : goal.returns-then-given-data_size
returns-then-given-data_size c = let w = (goal.at.returns-then-given-data_size c).After-data_size in
    let a = w.args in
    let s = w.image_size in
    size_differs a.plan s.result (omega arith) s.ensures a.given w.if-image_size-eq0.false (λ z. c.if-given-data_size.true (z ∙ sym (data_is w)))

pub returns : goal.returns
returns c = let w = (goal.at.returns c).After-data_size in
    let a = w.args in
    let s = w.image_size in
    size_fine a.plan s.result (omega arith) s.ensures a.given w.if-image_size-eq0.false (c.if-given-data_size.false ∙ data_is w)
