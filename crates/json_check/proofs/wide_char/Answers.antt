use native.Mathlib.Omega.{arith}
use Rattle.json_check.proofs.Beyond.{passed_two, passed_low3, passed_cut3, passed_three, passed_low4, passed_four}
use Rattle.json_check.proofs.wide_char.Goals as goal

-- `json_check::wide_char` meets its contract: one law for each form of a character.
pub returns-then-a-lt224 : goal.returns-then-a-lt224
returns-then-a-lt224 c = (omega arith, passed_two _ _ (omega arith) (omega arith) (omega arith) (c.stray.ensures c.if-stray.false))

pub returns-then-a : goal.returns-then-a
returns-then-a c =
    let second = c.stray-2.ensures c.if-stray-2.false in
    let third = c.stray-else-stray-2.ensures c.if-stray-3.false in
    (omega arith, passed_low3 _ _ (omega arith) c.if-a.true c.if-b-lt160.false second third)

pub returns-then-b-lt160-2 : goal.returns-then-b-lt160-2
returns-then-b-lt160-2 c =
    let second = c.stray-2.ensures c.if-stray-2.false in
    let third = c.stray-else-stray-2.ensures c.if-stray-3.false in
    (omega arith, passed_cut3 _ _ (omega arith) c.if-a-2.true c.if-b-lt160-2.true second third)

pub returns-then-a-lt240 : goal.returns-then-a-lt240
returns-then-a-lt240 c =
    let second = c.stray-2.ensures c.if-stray-2.false in
    let third = c.stray-else-stray-2.ensures c.if-stray-3.false in
    (omega arith, passed_three _ _ (omega arith) c.if-a-lt224-2.false c.if-a-lt240.true c.if-a.false c.if-a-2.false second third)

pub returns-then-a-3 : goal.returns-then-a-3
returns-then-a-3 c =
    let second = c.stray-2.ensures c.if-stray-2.false in
    let third = c.stray-else-stray-2.ensures c.if-stray-3.false in
    let fourth = c.stray-3.ensures c.if-stray-4.false in
    (omega arith, passed_low4 _ _ (omega arith) c.if-a-3.true (omega arith) second third fourth)

pub returns-then-a-lt244 : goal.returns-then-a-lt244
returns-then-a-lt244 c =
    let second = c.stray-2.ensures c.if-stray-2.false in
    let third = c.stray-else-stray-2.ensures c.if-stray-3.false in
    let fourth = c.stray-3.ensures c.if-stray-4.false in
    (omega arith, passed_four _ _ (omega arith) c.if-a-lt240.false c.if-a-3.false c.if-a-lt244.true second third fourth)
