use Prim.Native.Nat.{ℕ, suc, ◌+◌, ◌-◌, ◌≤◌}
use mathlib.Core.Path.{◌≡◌, sym, ap, ◌∙◌}
use mathlib.Core.Bool.{true, false}
use native.Mathlib.Omega.{arith}
use native.Mathlib.Numerals.{add-one}
use borrow.Author.Tests.{ltb-true, ltb-false}
use Rattle.eif.specs.Numbers.{size_limit}
use Rattle.eif.specs.Layout.{section_header_size}
use Rattle.eif.specs.Plan.{planned_size, packed_at}
use Rattle.plan_judge.specs.Size.{limited}
use Rattle.plain_laws.proofs.Shape.{packed_le, packed_suc, packed_zero}
use Rattle.plan_judge.proofs.Size.{limited_over, limited_in}
use Rattle.plan_judge.proofs.packed_size.Goals as goal
use Rattle.plan_judge.proofs.packed_size.Goals.{After-passes}

-- `plan_judge::packed_size` meets its contract: what is left and the size of the places passed make up the limit; where
-- the next section is more than what is left, the whole image is over the limit, since sizes only grow. Assumes
-- nothing.
pub loop-i-init : goal.loop-i-init
loop-i-init c = let z = packed_zero (planned_size c.args.places) in (omega arith, omega arith)

module _ (c : After-passes) where
  abbrev next : ℕ
  next = section_header_size + planned_size c.args.places c.loop-i.i

  -- a section after place i is too much
  too_long : c.passes.result ≡ true → 0 ≡ limited (packed_at c.args.places c.args.count)
  too_long h =
      let l = c.args.places in
      let i = c.loop-i.i in
      let e = packed_suc (planned_size l) i in
      let m = packed_le l (suc i) c.args.count (omega arith) in
      let o = ltb-true c.loop-i.left next (sym c.passes.ensures ∙ h) in
      limited_over (packed_at l c.args.count) (omega arith)

  fits : c.passes.result ≡ false → next ≤ c.loop-i.left
  fits h = ltb-false c.loop-i.left next (sym c.passes.ensures ∙ h)

pub returns-then-passes : goal.returns-then-passes
returns-then-passes c = too_long (goal.at.returns-then-passes c).After-passes c.if-passes.true

pub loop-i-preserved : goal.loop-i-preserved
loop-i-preserved c = let f = fits (goal.at.loop-i-preserved c).After-passes c.if-passes.false in
    let e = packed_suc (planned_size c.args.places) c.loop-i.i in
    rw add-one (omega arith, omega arith)

pub returns : goal.returns
returns c = let a = c.args in
    let z : c.loop-i.i ≡ a.count = omega arith in
    let e = ap (packed_at a.places) z in
    let f : size_limit - c.loop-i.left ≡ packed_at a.places a.count = omega arith in
    f ∙ limited_in (packed_at a.places a.count) (omega arith)

pub overflow_sub-left-in-loop-i : goal.overflow_sub-left-in-loop-i
overflow_sub-left-in-loop-i c = let f = fits (goal.at.overflow_sub-left-in-loop-i c).After-passes c.if-passes.false in omega arith

pub overflow_sub-left-in-loop-i-2 : goal.overflow_sub-left-in-loop-i-2
overflow_sub-left-in-loop-i-2 c = let f = fits (goal.at.overflow_sub-left-in-loop-i-2 c).After-passes c.if-passes.false in omega arith
