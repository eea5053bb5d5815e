use mathlib.Core.Path.{◌∙◌}
use borrow.Author.Tests.{lt-ltb, le-ltb}
use Rattle.assembler.specs.Rules.{shorter_than_at_open}
use Rattle.assembler_judge.proofs.is_short.Goals as goal

-- `assembler_judge::is_short` meets its contract: each return from the tests that led to it. Assumes nothing.
pub returns-then-image-state : goal.returns-then-image-state
unfolding shorter_than_at_open
returns-then-image-state c = simp (lt-ltb _ _ c.if-image-state.true)

pub returns-then-marks-state : goal.returns-then-marks-state
unfolding shorter_than_at_open
returns-then-marks-state c = simp (le-ltb _ _ c.if-image-state.false, lt-ltb _ _ c.if-marks-state.true)

pub returns : goal.returns
unfolding shorter_than_at_open
returns c = c.too_small.ensures ∙ simp (le-ltb _ _ c.if-image-state.false, le-ltb _ _ c.if-marks-state.false)
