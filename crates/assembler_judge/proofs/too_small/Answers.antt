use borrow.Author.Tests.{lt-ltb, le-ltb}
use Rattle.assembler.specs.Rules.{too_small}
use Rattle.assembler_judge.proofs.too_small.Goals as goal

-- `assembler_judge::too_small` meets its contract: each return from the tests that led to it. Assumes nothing.
pub returns-then-image-length : goal.returns-then-image-length
unfolding too_small
returns-then-image-length c = simp (lt-ltb _ _ c.if-image-length.true)

pub returns : goal.returns
unfolding too_small
returns c = rw c.pieces.ensures (simp (le-ltb _ _ c.if-image-length.false))
