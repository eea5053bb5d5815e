use Prim.Native.Nat.{ℕ}
use mathlib.Core.Path.{sym, ap, ap₂, ◌∙◌}
use native.Mathlib.Omega.{arith}
use lib.ListN.{take, length-take}
use Rattle.octets.proofs.Lists.{take_min}
use Rattle.arriving_fingerprint.specs.Fingerprinting.{fed_fingerprinting_with, roll_taken_all}
use Rattle.arriving_fingerprint.proofs.Steps.{fed_open, fed_ended}
use Rattle.arriving_fingerprint.proofs.feed.Goals as goal

-- `arriving_fingerprint::feed` meets its contract: it takes the allowed bytes before the end, and none after it.
pub returns-then-state-ne0 : goal.returns-then-state-ne0
returns-then-state-ne0 c = let a = c.args in
    sym (fed_ended a.state a.piece.now a.allowance (λ e. omega arith))

pub returns : goal.returns
returns c = let a = c.args in
    let piece = a.piece.now in
    let n = c.lesser-count.ensures in
    ap₂ fed_fingerprinting_with
    (c.take_bytes.ensures ∙ ap (λ (k : ℕ). roll_taken_all a.state (take k piece)) n ∙ ap (roll_taken_all a.state) (take_min a.allowance piece))
    n
    ∙ sym (fed_open a.state piece a.allowance (omega arith))

pub slice_bounds-take_bytes-end : goal.slice_bounds-take_bytes-end
slice_bounds-take_bytes-end c = simp length-take (omega arith)
