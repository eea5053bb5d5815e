use Rattle.std.proofs.Common.{◌≡◌, ℕ, ◌+◌, ◌-◌, List, sym, refl, ap, ◌∙◌, arith, take_all, rules}
use Rattle.sha384_block.specs.Fips.{extend, rounds}
use Rattle.sha384_block.proofs.Block.{ahead_next, round_next, rounds_end}
use Rattle.sha384_block.proofs.all_rounds.Goals as goal

-- `sha384_block::all_rounds` meets its contract: after each turn the words that are there give the whole schedule, and the rounds left give the end. Once the schedule is whole only rounds are left. Assumes nothing.
pub loop-t-init : goal.loop-t-init
loop-t-init c = (omega arith, omega arith, record { size = search rules; words = refl; rest = refl })

pub loop-t-preserved : goal.loop-t-preserved
loop-t-preserved c = let l = c.loop-t in
    let t = l.t in
    let v = c.one_round-v1 in
    let x = c.next_word in
    let w = c.one_round-v2 in
    let y = c.next_word-in-loop-t in
    let even = l.invariant.1 in
    let one = ahead_next l.invariant.2 (t + 1) (t + 14) (t + 9) (t + 16) x.result v.result (omega arith) refl refl refl refl v.ensures x.ensures in
    let two = ahead_next one (t + 2) (t + 15) (t + 10) (t + 17) y.result w.result (omega arith) (omega arith) (omega arith) (omega arith) (omega arith) w.ensures y.ensures in
    (omega arith, omega arith, two)

pub loop-t-2-init : goal.loop-t-2-init
loop-t-2-init c = (omega arith, omega arith, omega arith, c.loop-t.invariant.2.size, refl)

pub loop-t-2-preserved : goal.loop-t-2-preserved
loop-t-2-preserved c = let l = c.loop-t-2 in
    let ks = c.args.k.now in
    let m = c.loop-t in
    let end = rounds (80 - m.t) m.t ks m.w m.v in
    let v = c.one_round-v1-in-loop-t-2 in
    let w = c.one_round-v2-in-loop-t-2 in
    let one = round_next ks m.w end l.t (l.t + 1) l.v v.result (omega arith) refl l.invariant.4 v.ensures in
    let two = round_next ks m.w end (l.t + 1) (l.t + 2) v.result w.result (omega arith) (omega arith) one w.ensures in
    (omega arith, omega arith, omega arith, l.invariant.3, two)

pub returns : goal.returns
unfolding extend
returns c = let m = c.loop-t-2 in
    let l = c.loop-t in
    let ks = c.args.k.now in
    let held = l.invariant.2 in
    let e : l.t ≡ 64 = omega arith in
    let size = held.size in
    let whole = sym (take_all 80 l.w (omega arith)) ∙ rw e at held.words in
    sym (rounds_end ks l.w m.t m.v (omega arith)) ∙ m.invariant.4 ∙ ap (λ (ws : List ℕ). rounds (80 - l.t) l.t ks ws l.v) whole ∙ held.rest
