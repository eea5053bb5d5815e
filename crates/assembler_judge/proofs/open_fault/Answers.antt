use mathlib.Core.Path.{sym, ◌∙◌}
use borrow.Author.Tests.{lt-ltb, le-ltb}
use Rattle.assembler.specs.ByKind.{open_fault}
use Rattle.assembler_judge.proofs.open_fault.Goals as goal

-- `assembler_judge::open_fault` meets its contract: each return from the tests that led to it. Assumes nothing.
pub returns-then-length : goal.returns-then-length
unfolding open_fault
returns-then-length c = simp (lt-ltb _ _ c.if-length.true)

pub returns-then-too_small : goal.returns-then-too_small
unfolding open_fault
returns-then-too_small c = simp (le-ltb _ _ c.if-length.false, sym c.too_small.ensures ∙ c.if-too_small.true)

pub returns : goal.returns
unfolding open_fault
returns c = simp (le-ltb _ _ c.if-length.false, sym c.too_small.ensures ∙ c.if-too_small.false)
