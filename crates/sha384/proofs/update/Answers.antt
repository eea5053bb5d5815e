use Prim.Native.Nat.{ℕ, ◌+◌, ◌≤◌}
use mathlib.Core.Path.{◌≡◌, sym, ◌∙◌}
use mathlib.Core.Bool.{Bool, false}
use native.Mathlib.Omega.{arith}
use borrow.Author.Tests.{ltb-false}
use lib.Dec.{ltb}
use lib.ListN.{length}
use Rattle.sha384.specs.State.{total_limit}
use Rattle.sha384.proofs.Answers.{piece_refused, piece_taken}
use Rattle.sha384.proofs.update.Goals as goal

-- `sha384::update` meets its contract: the answer by whether the total would pass the limit. Assumes nothing.
-- a piece that is taken keeps the limit
kept : (total size : ℕ) {b : Bool} → b ≡ ltb total_limit (total + size) → b ≡ false → total + size ≤ total_limit
kept total size e f = ltb-false total_limit (total + size) (sym e ∙ f)

pub overflow_add-total_after : goal.overflow_add-total_after
overflow_add-total_after c = let a = c.args in
    let h = kept a.state.total (length a.piece.now) c.passes.ensures c.if-passes.false in
    record { fits = omega arith }

pub returns-then-passes : goal.returns-then-passes
returns-then-passes c = let a = c.args in
    piece_refused a.state a.piece.now (sym c.passes.ensures ∙ c.if-passes.true) c.refuse.ensures

pub returns : goal.returns
returns c = let a = c.args in
    piece_taken a.state a.piece.now (sym c.passes.ensures ∙ c.if-passes.false) c.take_bytes-after.ensures
