use Prim.Native.Nat.{ℕ, ◌-◌, min}
use mathlib.Core.Path.{ap, ◌∙◌}
use native.Mathlib.Omega.{arith}
use lib.ListN.{length, take, drop, length-take}
use Rattle.crc32.specs.Crc.{crc_from}
use Rattle.arriving.proofs.Steps.{sum_after, sum_parts}
use Rattle.arriving.proofs.remainder.Goals as goal

-- `arriving::remainder` meets its contract: past the header every byte counts; before its end, those before the checksum's place and those
-- after the header, one part after the other. Assumes nothing.
pub returns-then-taken : goal.returns-then-taken
returns-then-taken c = let a = c.args in
    c.update.ensures ∙ sum_after a.checksum a.taken a.piece.now (omega arith)

pub returns : goal.returns
returns c = let a = c.args in
    let n = length a.piece.now in
    c.update-2.ensures
    ∙ ap (λ (k : ℕ). crc_from k (take (n - c.lesser-start.result) (drop c.lesser-start.result a.piece.now))) c.update-before.ensures
    ∙ sum_parts a.checksum a.taken a.piece.now
    (c.lesser-end.ensures ∙ ap (λ (k : ℕ). min k n) c.past.ensures)
    (c.lesser-start.ensures ∙ ap (λ (k : ℕ). min k n) c.past-2.ensures)

pub slice_bounds-update-end : goal.slice_bounds-update-end
slice_bounds-update-end c = simp length-take (omega arith)
