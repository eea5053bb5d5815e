use Prim.Native.Nat.{◌+◌, ◌*◌}
use mathlib.Core.Path.{◌≡◌, sym, ◌∙◌}
use native.Mathlib.Omega.{arith}
use Rattle.eif.specs.Layout.{header_size, section_header_size}
use Rattle.eif.specs.Plan.{data_before}
use Rattle.eif.specs.declared.Plan.{Plan}
use Rattle.plan_judge.specs.Size.{image_size}
use Rattle.plan_judge.proofs.Size.{data_none, data_some, size_few, size_parts}
use Rattle.plan_judge.proofs.data_size.Goals as goal
use Rattle.plan_judge.proofs.data_size.Goals.{Else-size-eq0}

-- `plan_judge::data_size` meets its contract: of an image's size, the data is what the headers leave. Assumes nothing.
pub returns-then-size-eq0 : goal.returns-then-size-eq0
returns-then-size-eq0 c = let s = c.image_size-size in
    data_none c.args.plan (sym s.ensures ∙ c.if-size-eq0.true)

-- the size is not 0
module _ (c : Else-size-eq0) where
  abbrev plan : Plan
  plan = c.args.plan

  some : image_size plan ≡ 0 → ⊥
  some z = c.if-size-eq0.false (c.image_size-size.ensures ∙ z)

  parts : c.image_size-size.result ≡ data_before plan.places plan.count + section_header_size * plan.count + header_size
  parts = let s = c.image_size-size in size_parts plan s.result (size_few plan some) s.ensures c.if-size-eq0.false

pub overflow_sub-result : goal.overflow_sub-result
overflow_sub-result c = let e = parts c in omega arith

pub overflow_sub-result-2 : goal.overflow_sub-result-2
overflow_sub-result-2 c = let e = parts (goal.at.overflow_sub-result-2 c).Else-size-eq0 in omega arith

pub returns : goal.returns
returns c = let w = (goal.at.returns c).Else-size-eq0 in
    let e = parts w in
    omega (arith, data_some (plan w) (some w))
