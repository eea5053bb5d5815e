use mathlib.Core.Path.{◌≡◌}
use native.Mathlib.Omega.{arith}
use borrow.Author.Rules.{rules}
use native.Mathlib.Numerals.{add-one}
use lib.ListN.{length}
use Rattle.cose.specs.Sign1.{register_size}
use Rattle.cose_lemmas.proofs.Head.{numbers_size, size_end}
use Rattle.cose_writer.proofs.value_size.Goals as goal

-- `cose_writer::value_size` meets its contract: the total and what is left make the whole. Assumes nothing.
pub loop-i-preserved : goal.loop-i-preserved
loop-i-preserved c = let v = c.args.value in
    let size : length v ≡ register_size = search rules in
    let e = numbers_size v c.loop-i.i (omega arith) in
    rw add-one (omega arith, omega arith, omega arith, omega arith)

pub returns : goal.returns
returns c = let v = c.args.value in
    let size : length v ≡ register_size = search rules in
    let e = size_end v c.loop-i.i (omega arith) in
    record { value = omega arith; lower_bound = (omega arith, omega arith) }
