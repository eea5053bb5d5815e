use mathlib.Core.Path.{◌≡◌, refl, sym, ◌∙◌}
use native.Mathlib.Omega.{arith}
use native.Mathlib.Nat.{sub-zero, sub_self}
use lib.ListN.{length}
use Rattle.eif.specs.Rules.{type_fault, first_fault, first_refusal}
use Rattle.eif.specs.declared.Verdict.TheVariants.{Accepted}
use Rattle.eif_lemmas.proofs.Verdicts.{walk_stop, walk_on}
use Rattle.type_judge.specs.Kinds.{listed_kind}
use Rattle.plan_judge.proofs.Types.{types_stop, types_missing, types_fine}
use Rattle.plan_judge.proofs.judge_types.Goals as goal
use Rattle.plan_judge.proofs.judge_types.Goals.{After-loop-i}

-- `plan_judge::judge_types` meets its contract: the walk over what is left, from the section reached, is the walk over
-- all; past the last section rule 12 is left. Assumes nothing.
pub returns-then-fault-ne0 : goal.returns-then-fault-ne0
returns-then-fault-ne0 c = let a = c.args in
    let l = a.kinds.now in
    let i = c.loop-i.i in
    let t = c.type_fault-fault in
    let f = type_fault a.version (listed_kind l) in
    c.refuse.ensures
    ∙ types_stop a.version (listed_kind l) (length l) (record { number = t.result; index = i; position = 0 })
    (walk_stop f i (length l) (omega arith) t.result c.if-fault-ne0.true (sym t.ensures) ∙ c.loop-i.invariant.1)

pub loop-i-preserved : goal.loop-i-preserved
loop-i-preserved c = let a = c.args in
    let l = a.kinds.now in
    let i = c.loop-i.i in (
      omega arith,
      sym (walk_on (type_fault a.version (listed_kind l)) i (length l) (omega arith) (sym c.type_fault-fault.ensures ∙ c.if-fault-ne0.false)) ∙ c.loop-i.invariant.1,
    )

-- past the last section the walk accepts
module _ (c : After-loop-i) where
  walked : Accepted ≡ first_fault (type_fault c.args.version (listed_kind c.args.kinds.now)) (length c.args.kinds.now) 0
  unfolding first_refusal
  walked =
      let l = c.args.kinds.now in
      let z : c.loop-i.i ≡ length l = omega arith in
      rw (z, sub_self) at c.loop-i.invariant.1

pub returns-then-lacks : goal.returns-then-lacks
returns-then-lacks c = let w = (goal.at.returns-then-lacks c).After-loop-i in
    let a = w.args in
    let l = a.kinds.now in
    c.refuse-then-lacks.ensures ∙ types_missing a.version (listed_kind l) (length l) (walked w) (sym c.lacks.ensures ∙ c.if-lacks.true)

pub returns : goal.returns
returns c = let w = (goal.at.returns c).After-loop-i in
    let a = w.args in
    let l = a.kinds.now in
    types_fine a.version (listed_kind l) (length l) (walked w) (sym c.lacks.ensures ∙ c.if-lacks.false)

pub loop-i-init : goal.loop-i-init
loop-i-init c = (omega arith, rw sub-zero refl)
