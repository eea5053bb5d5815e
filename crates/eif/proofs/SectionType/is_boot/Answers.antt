use borrow.Author.Tests.{le-leb, lt-leb}
use Rattle.eif.proofs.SectionType.is_boot.Goals as goal

-- `SectionType::is_boot` meets its contract: the two tests are the definition's. Assumes nothing.
pub returns-then-number-lt-KERNEL : goal.returns-then-number-lt-KERNEL
returns-then-number-lt-KERNEL c = simp (lt-leb _ _ c.if-number-lt-KERNEL.true)

pub returns : goal.returns
returns c = simp (le-leb _ _ c.if-number-lt-KERNEL.false)
