use mathlib.Core.Path.{refl, sym}
use lib.Seq.{set_out}
use Rattle.octets.specs.Over.{over}
use Rattle.cose_writer.proofs.put_byte.Goals as goal

-- `cose_writer::put_byte` meets its contract: one store, or none past the end. Assumes nothing.
pub returns-then-at-out : goal.returns-then-at-out
unfolding over
returns-then-at-out c = refl

pub returns-else-at-out : goal.returns-else-at-out
unfolding over
returns-else-at-out c = let a = c.args in sym (set_out a.out.now a.at a.b c.if-at-out.false)
