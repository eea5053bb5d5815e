use borrow.Author.Tests.{eqb-true}
use Rattle.octets.proofs.Logic.{not_both}
use Rattle.eif_registers.proofs.Hashed.{same_section}
use Rattle.eif_registers.proofs.is_same.Goals as goal

-- `eif_registers::is_same` meets its contract: it says true only where every field agrees. Assumes nothing.
pub returns : goal.returns
returns c e = let a = c.args in
    same_section a.a a.b c.if-a-b.false c.if-a-b-2.false c.if-a-b-3.false (eqb-true a.a.length.0 a.b.length.0 e)

pub returns-then-a-b : goal.returns-then-a-b
returns-then-a-b c e = not_both e

pub returns-then-a-b-2 : goal.returns-then-a-b-2
returns-then-a-b-2 c e = not_both e

pub returns-then-a-b-3 : goal.returns-then-a-b-3
returns-then-a-b-3 c e = not_both e
