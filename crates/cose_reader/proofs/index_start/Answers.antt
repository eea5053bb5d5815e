use mathlib.Core.Path.{◌≡◌, refl}
use native.Mathlib.Omega.{arith}
use borrow.Author.Tests.{ne_eqb}
use lib.ListN.{get_or}
use Rattle.cose.specs.Read.{index_start}
use Rattle.cose_reader.proofs.index_start.Goals as goal

-- `cose_reader::index_start` meets its contract: its test is that of the definition. Assumes nothing.
pub returns-then-byte-eq67 : goal.returns-then-byte-eq67
unfolding index_start
returns-then-byte-eq67 c = let s = c.args.s.now in
    let e : get_or s 1 0 ≡ 67 = omega arith in
    record { value = rw e refl; upper_bound = omega arith }

pub returns-else-byte-eq67 : goal.returns-else-byte-eq67
unfolding index_start
returns-else-byte-eq67 c = let s = c.args.s.now in
    let d : get_or s 1 0 ≡ 67 → ⊥ = λ q. omega arith in
    record { value = simp (ne_eqb _ _ d); upper_bound = omega arith }
