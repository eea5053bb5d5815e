use Prim.Native.Nat.{ℕ, ◌+◌, ◌*◌}
use mathlib.Core.Path.{◌≡◌, refl, ap₂, ◌∙◌}
use Rattle.crc32_lemmas.specs.Sizes.{high_back, low_back}
use Rattle.crc32_lemmas.specs.Fold.{remainder_from, sparser, mix, ring}
use native.Mathlib.Omega.{arith}
use Rattle.crc32_fold.proofs.Round.{round_kept_next}
use Rattle.crc32_fold.proofs.turn_second.Goals as goal

-- `crc32_fold::turn_second` meets its contract: each turn is one word further.
-- Assumes nothing.
pub loop-j-init : goal.loop-j-init
loop-j-init c = (omega arith, omega arith, (refl, c.requires.1))

pub turn-requires : goal.turn-requires
turn-requires c = (omega arith, omega arith, omega arith, omega arith, c.loop-j.invariant.2.1)

pub loop-j-preserved : goal.loop-j-preserved
loop-j-preserved c = let l = c.loop-j in
    let a = c.args in
    (omega arith, omega arith, round_kept_next a.s.now (a.at + 4 * high_back) a.v.now high_back a.at l.v c.turn.new.v l.j c.turn.ensures l.invariant.2)

pub returns : goal.returns
returns c = let l = c.loop-j in
    let s = c.args.s.now in
    let at = c.args.at in
    let e : low_back ≡ l.j = omega arith in
    let i : at + 4 * low_back ≡ at + l.j * 4 = omega arith in
    (ap₂ (λ (m n : ℕ). remainder_from s m (mix sparser 32 (ring l.v n))) i e ∙ l.invariant.2.0, l.invariant.2.1)
