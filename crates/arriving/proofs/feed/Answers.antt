use Prim.Native.Nat.{ℕ, ◌-◌, min}
use mathlib.Core.Path.{◌≡◌, sym, ap, ap₂, ◌∙◌}
use native.Mathlib.Omega.{arith}
use lib.ListN.{take, length-take}
use Rattle.arriving.specs.State.{count_limit}
use Rattle.arriving.specs.Calls.{fed_with, grown}
use Rattle.arriving.proofs.Steps.{kept_part, fed_open, fed_ended}
use Rattle.arriving.proofs.feed.Goals as goal

-- `arriving::feed` meets its contract: once the end was told nothing is taken, and else the state grows by what the counter has room for.
-- Assumes nothing.
pub returns-then-state-ne0 : goal.returns-then-state-ne0
returns-then-state-ne0 c = let a = c.args in
    sym (fed_ended a.state a.piece.now a.allowance (λ e. omega arith))

pub returns : goal.returns
returns c = let a = c.args in
    let piece = a.piece.now in
    let room = count_limit - a.state.taken in
    let kept : take c.lesser-kept.result piece ≡ take room (take a.allowance piece) =
    ap (λ (n : ℕ). take n piece) (c.lesser-kept.ensures ∙ ap (min room) c.lesser-count.ensures) ∙ kept_part room a.allowance piece in
    ap₂ fed_with (c.grow-after.ensures ∙ ap (grown a.state) kept) c.lesser-count.ensures ∙ sym (fed_open a.state piece a.allowance (omega arith))

pub slice_bounds-grow-end : goal.slice_bounds-grow-end
slice_bounds-grow-end c = simp length-take (omega arith)

pub grow-after-requires : goal.grow-after-requires
grow-after-requires c = simp length-take (omega arith)
