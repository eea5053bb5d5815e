use mathlib.Core.Path.{refl, sym, ◌∙◌}
use native.Mathlib.Omega.{arith}
use lib.ListN.{length-take}
use Rattle.type_judge.specs.Kinds.{listed_kind}
use Rattle.type_judge.proofs.Parts.{order_part}
use Rattle.plan_judge.proofs.Types.{type_order, type_other}
use Rattle.plan_judge.proofs.type_fault.Goals as goal

-- `plan_judge::type_fault` meets its contract: each answer is the rule's, from what the callees found; rules 10 and 11
-- over the types before the section are those over all types. Assumes nothing.
pub returns-then-allowed : goal.returns-then-allowed
returns-then-allowed c = let a = c.args in
    let l = a.kinds.now in
    c.order_fault.ensures ∙ order_part l (listed_kind l) a.i (omega arith) (λ j h. refl) (listed_kind l a.i)
    ∙ type_order a.version (listed_kind l) a.i (sym c.allowed.ensures ∙ c.if-allowed.true)

pub returns : goal.returns
returns c = let a = c.args in
    type_other a.version (listed_kind a.kinds.now) a.i (sym c.allowed.ensures ∙ c.if-allowed.false)

pub slice_bounds-order_fault-end : goal.slice_bounds-order_fault-end
slice_bounds-order_fault-end c = simp length-take (omega arith)
