use mathlib.Core.Path.{◌≡◌, refl}
use native.Mathlib.Omega.{arith}
use borrow.Author.Rules.{rules}
use lib.ListN.{length}
use Rattle.eif.specs.Numbers.{place_count}
use Rattle.eif_registers.proofs.Hashed.{alike_next}
use Rattle.eif_registers.proofs.alike.Goals as goal
use Rattle.eif_registers.proofs.alike.Goals.{Start}

-- `eif_registers::alike` meets its contract: the sections passed are the same in both. Assumes nothing.
pub loop-i-preserved : goal.loop-i-preserved
loop-i-preserved c = let l = c.loop-i in
    let s = (goal.at.loop-i-preserved c).Start in
    let n : length s.args.a ≡ place_count = search rules in
    let m : length s.args.b ≡ place_count = search rules in
    (omega arith, alike_next s.args.a s.args.b l.i (omega arith) (omega arith) (c.is_same.ensures c.if-not-is_same.false) l.invariant.1)

pub loop-i-init : goal.loop-i-init
loop-i-init c = (omega arith, refl)

pub returns-then-not-is_same : goal.returns-then-not-is_same
returns-then-not-is_same c = (omega arith, c.loop-i.invariant.1)

pub returns : goal.returns
returns c = (omega arith, c.loop-i.invariant.1)
