use mathlib.Core.Path.{◌≡◌, sym, ap, ap₂, ◌∙◌}
use mathlib.Core.Bool.{true}
use native.Mathlib.Omega.{arith}
use Rattle.eif.specs.Rules.{boot_type}
use Rattle.sha384.specs.declared.State.{State}
use Rattle.arriving_registers.specs.Measuring.{streams_of}
use Rattle.arriving_registers.proofs.Steps.{hashed_none, hashed_later, hashed_once, hashed_twice}
use Rattle.arriving_registers.proofs.hash.Goals as goal
use Rattle.arriving_registers.proofs.hash.Goals.{After-is_later, Else-not-is_boot}

-- `arriving_registers::hash` meets its contract, by the type of the section and the ramdisks before it.
boots : (c : Else-not-is_boot) → boot_type c.args.kind ≡ true
boots c = sym c.is_boot.ensures ∙ c.if-not-is_boot.false

pub returns-then-not-is_boot : goal.returns-then-not-is_boot
returns-then-not-is_boot c = let a = c.args in
    sym (hashed_none a.from a.kind a.ramdisks a.bytes.now (sym c.is_boot.ensures ∙ c.if-not-is_boot.true))

pub returns-then-is_later : goal.returns-then-is_later
returns-then-is_later c = let l = (goal.at.returns-then-is_later c).After-is_later in
    let k = (goal.at.After-is_later l).Else-not-is_boot in
    let a = k.args in
    ap₂ (λ (x y : State). streams_of x a.from.boot y) l.after-whole.ensures c.after-more.ensures
    ∙ sym (hashed_later a.from a.kind a.ramdisks a.bytes.now (boots k) (sym l.is_later.ensures ∙ c.if-is_later.true))

pub returns-then-ramdisks-lt2 : goal.returns-then-ramdisks-lt2
returns-then-ramdisks-lt2 c = let l = (goal.at.returns-then-ramdisks-lt2 c).After-is_later in
    let k = (goal.at.After-is_later l).Else-not-is_boot in
    let a = k.args in
    ap (λ (x : State). streams_of x x a.from.app) l.after-whole.ensures
    ∙ sym (hashed_once a.from a.kind a.ramdisks a.bytes.now (boots k) (sym l.is_later.ensures ∙ c.if-is_later.false) (omega arith))

pub returns : goal.returns
returns c = let l = (goal.at.returns c).After-is_later in
    let k = (goal.at.After-is_later l).Else-not-is_boot in
    let a = k.args in
    ap₂ (λ (x y : State). streams_of x y a.from.app) l.after-whole.ensures c.after-both.ensures
    ∙ sym (hashed_twice a.from a.kind a.ramdisks a.bytes.now (boots k) (sym l.is_later.ensures ∙ c.if-is_later.false) (omega arith))
