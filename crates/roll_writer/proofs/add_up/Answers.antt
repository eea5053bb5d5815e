use Prim.Native.Nat.{◌+◌, ◌≤◌}
use mathlib.Core.Path.{sym, ◌∙◌}
use native.Mathlib.Omega.{arith}
use borrow.Author.Tests.{ltb-true, ltb-false}
use Rattle.roll_writer.specs.Write.{count_most}
use Rattle.roll_writer.proofs.add_up.Goals as goal
use Rattle.roll_writer.proofs.add_up.Goals.{Else-passes}

-- `roll_writer::add_up` meets its contract: the sum is over the largest length, or it is the sum.
fits : (c : Else-passes) → c.args.a + c.args.b ≤ count_most
fits c = ltb-false count_most _ (sym c.passes.ensures ∙ c.if-passes.false)

pub returns-then-passes : goal.returns-then-passes
returns-then-passes c = let a = c.args in
    let h = ltb-true count_most (a.a + a.b) (sym c.passes.ensures ∙ c.if-passes.true) in
    omega arith

pub overflow_add-result : goal.overflow_add-result
overflow_add-result c = let h = fits c in omega arith

pub returns-else-passes : goal.returns-else-passes
returns-else-passes c = let h = fits c in omega arith
