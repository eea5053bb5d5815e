use Prim.Native.Nat.{ℕ, ◌≤◌}
use mathlib.Core.Path.{◌≡◌, sym, ap, ◌∙◌}
use mathlib.Core.List.{List}
use native.Mathlib.Omega.{arith}
use lib.ListN.{length, take, length-take}
use Rattle.eif.specs.Numbers.{place_count}
use Rattle.eif.specs.Answers.{refuse}
use Rattle.eif.specs.Rules.{field_fault, types_verdict}
use Rattle.eif.specs.Plan.{planned_kind}
use Rattle.eif.specs.declared.Plan.{Plan}
use Rattle.eif_lemmas.proofs.Fields.{fields}
use Rattle.eif_lemmas.proofs.Table.{length_filled}
use Rattle.type_judge.specs.Kinds.{listed_kind}
use Rattle.plan_judge.specs.Types.{kinds_of}
use Rattle.plan_judge.proofs.Types.{types_lent}
use Rattle.plan_judge.proofs.Verdict.{by_fields, by_types, by_sizes, by_none}
use Rattle.plan_judge.proofs.judge.Goals as goal
use Rattle.plan_judge.proofs.judge.Goals.{After-judge_types-types, After-kinds_of-kinds, After-size_fault-sizes}

-- `plan_judge::judge` meets its contract: fields, types and sizes are judged in this order, and the first refusal is the
-- answer; the types lent are the plan's. Assumes nothing.
pub returns-then-fields-ne0 : goal.returns-then-fields-ne0
returns-then-fields-ne0 c = let a = c.args in
    let e = c.field_fault-fields.ensures in
    c.refuse.ensures ∙ ap (λ (n : ℕ). refuse n 0) e ∙ by_fields a.plan a.given (λ z. c.if-fields-ne0.true (e ∙ z))

module _ (c : After-kinds_of-kinds) where
  abbrev plan : Plan
  plan = c.args.plan

  clean : field_fault plan.version plan.count ≡ 0
  clean = sym c.field_fault-fields.ensures ∙ c.if-fields-ne0.false

  few : plan.count ≤ place_count
  few = (fields plan.version plan.count clean).few

  all : length c.kinds_of-kinds.result ≡ place_count
  unfolding kinds_of
  all = ap length c.kinds_of-kinds.ensures ∙ length_filled (planned_kind plan.places) 0 place_count place_count

module _ (c : After-judge_types-types) where
  abbrev w : After-kinds_of-kinds
  w = (goal.at.After-judge_types-types c).After-kinds_of-kinds

  types_are : c.judge_types-types.result ≡ types_verdict (plan w).version (planned_kind (plan w).places) (plan w).count
  types_are =
      c.judge_types-types.ensures
      ∙ ap (λ (l : List ℕ). types_verdict (plan w).version (listed_kind (take (plan w).count l)) (length (take (plan w).count l))) w.kinds_of-kinds.ensures
      ∙ types_lent (plan w).version (plan w).places (plan w).count (few w)

pub returns-in_default : goal.returns-in_default
returns-in_default c = let d = (goal.at.returns-in_default c).After-judge_types-types in
    let t = c.in_default in
    t.is ∙ by_types (plan (w d)) (w d).args.given (clean (w d)) t.field-0 (sym (types_are d) ∙ t.is)

pub returns-then-sizes-ne0 : goal.returns-then-sizes-ne0
returns-then-sizes-ne0 c = let f = (goal.at.returns-then-sizes-ne0 c).After-size_fault-sizes in
    let d = (goal.at.After-size_fault-sizes f).After-judge_types-types in
    let e = f.size_fault-sizes.ensures in
    c.refuse-then-sizes-ne0.ensures ∙ ap (λ (n : ℕ). refuse n 0) e
    ∙ by_sizes (plan (w d)) (w d).args.given (clean (w d)) (sym (types_are d) ∙ f.in-Accepted.is) (λ z. c.if-sizes-ne0.true (e ∙ z))

pub returns : goal.returns
returns c = let f = (goal.at.returns c).After-size_fault-sizes in
    let d = (goal.at.After-size_fault-sizes f).After-judge_types-types in
    by_none (plan (w d)) (w d).args.given (clean (w d)) (sym (types_are d) ∙ f.in-Accepted.is) (sym f.size_fault-sizes.ensures ∙ c.if-sizes-ne0.false)

pub slice_bounds-kinds-end : goal.slice_bounds-kinds-end
slice_bounds-kinds-end c = let h = few (goal.at.slice_bounds-kinds-end c).After-kinds_of-kinds in
    let e = all (goal.at.slice_bounds-kinds-end c).After-kinds_of-kinds in
    omega arith

pub slice_bounds-judge_types-end : goal.slice_bounds-judge_types-end
slice_bounds-judge_types-end c = let h = few (goal.at.slice_bounds-judge_types-end c).After-kinds_of-kinds in
    let e = all (goal.at.slice_bounds-judge_types-end c).After-kinds_of-kinds in
    simp length-take (omega arith)

pub size_fault-sizes-requires : goal.size_fault-sizes-requires
size_fault-sizes-requires c = few (w (goal.at.size_fault-sizes-requires c).After-judge_types-types)
