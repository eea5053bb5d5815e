use borrow.Author.Tests.{eq-eqb, ne_eqb}
use Rattle.eif.specs.Rules.{allowed_in}
use Rattle.eif.proofs.SectionType.allowed.Goals as goal

-- `SectionType::allowed` meets its contract: each return answers as the tests on the way to it make the definition answer.
-- Assumes nothing.
pub returns-then-number-eq-SIGNATURE : goal.returns-then-number-eq-SIGNATURE
unfolding allowed_in
returns-then-number-eq-SIGNATURE c = simp (eq-eqb _ _ c.if-number-eq-SIGNATURE.true)

pub returns-then-number-eq-METADATA : goal.returns-then-number-eq-METADATA
unfolding allowed_in
returns-then-number-eq-METADATA c = simp (ne_eqb _ _ c.if-number-eq-SIGNATURE.false, eq-eqb _ _ c.if-number-eq-METADATA.true)

pub returns : goal.returns
unfolding allowed_in
returns c = simp (ne_eqb _ _ c.if-number-eq-SIGNATURE.false, ne_eqb _ _ c.if-number-eq-METADATA.false) c.is_boot.ensures
