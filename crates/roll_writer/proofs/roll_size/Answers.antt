use mathlib.Core.Path.{◌≡◌, refl}
use native.Mathlib.Omega.{arith}
use native.Mathlib.Numerals.{add-one}
use borrow.Author.Rules.{rules}
use lib.ListN.{length}
use Rattle.eif.specs.Numbers.{place_count}
use Rattle.staged.specs.View.{held_by}
use Rattle.roll_writer.proofs.Steps.{size_step, size_end}
use Rattle.roll_writer.proofs.roll_size.Goals as goal

-- `roll_writer::roll_size` meets its contract: the length so far and that of the rest from here make the whole length, or both are over the largest.
pub loop-i-preserved : goal.loop-i-preserved
loop-i-preserved c = let l = c.loop-i in
    let a = c.args in
    let held = held_by a.base.now a.replacement.now in
    let size : length a.sections ≡ place_count = search rules in
    let e = size_step held a.sections l.i (omega arith) in
    let p = c.record_size.ensures in
    let q = c.add_up-total.ensures in
    rw add-one (omega arith, omega arith)

pub returns : goal.returns
returns c = let l = c.loop-i in
    let a = c.args in
    let size : length a.sections ≡ place_count = search rules in
    let e = size_end (held_by a.base.now a.replacement.now) a.sections l.i (omega arith) in
    let q = c.add_up.ensures in
    omega arith

pub loop-i-init : goal.loop-i-init
loop-i-init c = (omega arith, refl)
