use native.Mathlib.Omega.{arith}
use borrow.Author.Tests.{eq-eqb, ne_eqb}
use Rattle.eif.specs.Numbers.{ramdisk}
use Rattle.stream_reader.proofs.ramdisk_in.Goals as goal

-- `stream_reader::ramdisk_in` meets its contract, by the type. Assumes nothing.
pub returns-then-kind-eq-RAMDISK : goal.returns-then-kind-eq-RAMDISK
returns-then-kind-eq-RAMDISK c = record { value = simp (eq-eqb c.args.kind ramdisk c.if-kind-eq-RAMDISK.true); upper_bound = omega arith }

pub returns-else-kind-eq-RAMDISK : goal.returns-else-kind-eq-RAMDISK
returns-else-kind-eq-RAMDISK c = record { value = simp (ne_eqb c.args.kind ramdisk c.if-kind-eq-RAMDISK.false); upper_bound = omega arith }
