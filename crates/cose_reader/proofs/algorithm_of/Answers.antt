use mathlib.Core.Path.{◌≡◌, refl}
use native.Mathlib.Omega.{arith}
use borrow.Author.Tests.{ne_eqb}
use lib.ListN.{get_or}
use Rattle.cose.specs.Read.{algorithm_of}
use Rattle.cose_reader.proofs.algorithm_of.Goals as goal

-- `cose_reader::algorithm_of` meets its contract: its tests are those of the definition. Assumes nothing.
pub returns-then-byte-eq67 : goal.returns-then-byte-eq67
unfolding algorithm_of
returns-then-byte-eq67 c = let s = c.args.s.now in
    let e : get_or s 1 0 ≡ 67 = omega arith in
    rw e refl

pub returns-then-byte-eq34 : goal.returns-then-byte-eq34
unfolding algorithm_of
returns-then-byte-eq34 c = let s = c.args.s.now in
    let e : get_or s 5 0 ≡ 34 = omega arith in
    let d : get_or s 1 0 ≡ 67 → ⊥ = λ q. omega arith in
    simp (ne_eqb _ _ d, e)

pub returns : goal.returns
unfolding algorithm_of
returns c = let s = c.args.s.now in
    let e : get_or s 5 0 ≡ 34 → ⊥ = λ q. omega arith in
    let d : get_or s 1 0 ≡ 67 → ⊥ = λ q. omega arith in
    simp (ne_eqb _ _ d, ne_eqb _ _ e)
