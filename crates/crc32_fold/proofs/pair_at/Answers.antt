use Prim.Native.Nat.{ℕ, ◌+◌, ◌*◌, ◌^◌}
use mathlib.Core.Path.{ap₂, ◌∙◌}
use Rattle.crc32_lemmas.proofs.FoldRing.{pair_in, pair_last, pair_past}
use native.Mathlib.Omega.{arith}
use Rattle.crc32_fold.proofs.pair_at.Goals as goal
use Rattle.crc32_fold.proofs.pair_at.Goals.{Else-i-lt-RING_LAST, Start, Then-i-lt-RING_LAST}

-- `crc32_fold::pair_at` meets its contract: two words, the last one, or none.
-- Assumes nothing.
pub returns-then-i-lt-RING_LAST : goal.returns-then-i-lt-RING_LAST
returns-then-i-lt-RING_LAST c = let a = (goal.at.returns-then-i-lt-RING_LAST c).Then-i-lt-RING_LAST in
    ap₂ (λ (x y : ℕ). x + y * 2 ^ 32) c.wide32.ensures.0 c.wide32-then-i-lt-RING_LAST.ensures.0 ∙ pair_in a.args.v.now a.requires a.args.i (omega arith)

pub returns-then-i-eq-RING_LAST : goal.returns-then-i-eq-RING_LAST
returns-then-i-eq-RING_LAST c = let a = (goal.at.returns-then-i-eq-RING_LAST c).Else-i-lt-RING_LAST in
    c.wide32-then-i-eq-RING_LAST.ensures.0 ∙ pair_last a.args.v.now a.requires a.args.i (omega arith)

pub returns : goal.returns
returns c = let a = (goal.at.returns c).Start in
    pair_past a.args.v.now a.requires a.args.i (omega arith)
