use borrow.Author.Tests.{eq-eqb, ne_eqb}
use Rattle.eif.specs.Numbers.{ramdisk}
use Rattle.stream_reader.proofs.is_later.Goals as goal

-- `stream_reader::is_later` meets its contract, by the type. Assumes nothing.
pub returns-then-kind-eq-RAMDISK : goal.returns-then-kind-eq-RAMDISK
returns-then-kind-eq-RAMDISK c = simp (eq-eqb c.args.kind ramdisk c.if-kind-eq-RAMDISK.true)

pub returns : goal.returns
returns c = simp (ne_eqb c.args.kind ramdisk c.if-kind-eq-RAMDISK.false)
