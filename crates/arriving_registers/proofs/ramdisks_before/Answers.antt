use mathlib.Core.Path.{◌≡◌, refl, ap, ◌∙◌}
use native.Mathlib.Omega.{arith}
use Rattle.eif.specs.Reading.{ramdisk_in}
use Rattle.arriving_sections.specs.Span.{kept_kind}
use Rattle.arriving_registers.specs.Measuring.{ramdisks_at}
use Rattle.arriving_registers.proofs.Steps.{ramdisks_next}
use Rattle.arriving_registers.proofs.ramdisks_before.Goals as goal
use Rattle.arriving_registers.proofs.ramdisks_before.Goals.{After-kind_at}

-- `arriving_registers::ramdisks_before` meets its contract: those of the first i places are counted.
pub loop-i-init : goal.loop-i-init
unfolding ramdisks_at
loop-i-init c = (omega arith, omega arith, refl)

pub loop-i-preserved : goal.loop-i-preserved
loop-i-preserved c = let k = (goal.at.loop-i-preserved c).After-kind_at in
    let l = k.loop-i in
    let a = k.args in
    let e = c.ramdisk_in-ramdisks.ensures.value in
    let f = k.kind_at.ensures in
    let z = ap ramdisk_in f in
    (omega arith, omega arith, omega (arith, ramdisks_next (kept_kind a.headers.now) l.i))

pub returns : goal.returns
returns c = let l = c.loop-i in
    let a = c.args in
    let z : l.i ≡ a.place = omega arith in
    l.invariant.2 ∙ ap (ramdisks_at (kept_kind a.headers.now)) z
