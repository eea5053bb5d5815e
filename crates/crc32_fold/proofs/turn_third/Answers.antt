use Prim.Native.Nat.{ℕ, ◌+◌, ◌*◌}
use mathlib.Core.Path.{◌≡◌, refl, sym, ap, ap₂, ◌∙◌}
use Rattle.crc32_lemmas.specs.Sizes.{low_back, ring_bytes}
use Rattle.crc32_lemmas.specs.Fold.{remainder_from, sparser, mix, ring, ring_size}
use Rattle.crc32_lemmas.proofs.FoldRing.{ring_round}
use native.Mathlib.Omega.{arith}
use Rattle.crc32_fold.proofs.Round.{round_kept_next}
use Rattle.crc32_fold.proofs.turn_third.Goals as goal

-- `crc32_fold::turn_third` meets its contract: each turn is one word further, and the ring is the same after a round.
-- Assumes nothing.
pub loop-j-init : goal.loop-j-init
loop-j-init c = (omega arith, omega arith, (refl, c.requires.1))

pub turn-requires : goal.turn-requires
turn-requires c = (omega arith, omega arith, omega arith, omega arith, c.loop-j.invariant.2.1)

pub loop-j-preserved : goal.loop-j-preserved
loop-j-preserved c = let l = c.loop-j in
    let a = c.args in
    (omega arith, omega arith, round_kept_next a.s.now (a.at + 4 * low_back) a.v.now low_back a.at l.v c.turn.new.v l.j c.turn.ensures l.invariant.2)

pub returns : goal.returns
returns c = let l = c.loop-j in
    let s = c.args.s.now in
    let at = c.args.at in
    let e : ring_size ≡ l.j = omega arith in
    let i : at + ring_bytes ≡ at + l.j * 4 = omega arith in
    let o = sym (ring_round l.v) ∙ ap (ring l.v) e in
    (ap₂ (λ (m x : ℕ). remainder_from s m (mix sparser 32 x)) i o ∙ l.invariant.2.0, l.invariant.2.1)
