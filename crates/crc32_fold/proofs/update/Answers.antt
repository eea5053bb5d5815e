use Prim.Native.Nat.{ℕ, ◌-◌}
use mathlib.Core.Path.{sym, ap, ◌∙◌}
use native.Mathlib.Omega.{arith}
use lib.ListN.{length, take, drop, length-take, take-append-drop}
use borrow.Author.Rules.{part_to_end}
use Rattle.crc32.specs.Crc.{crc_from}
use Rattle.crc32.proofs.Linear.{crc_from_append}
use Rattle.crc32_fold.proofs.update.Goals as goal

-- `crc32_fold::update` meets its contract: so does each way, and two parts taken in one after the other are the whole.
-- Assumes nothing.
pub slice_bounds-long-end : goal.slice_bounds-long-end
slice_bounds-long-end c = simp length-take (omega arith)

pub long-before-requires : goal.long-before-requires
long-before-requires c = simp length-take (omega arith)

pub returns : goal.returns
returns c = let a = c.args in
    let s = a.bytes.now in
    let h : ℕ = 640 in
    c.longer-2.ensures
    ∙ ap (λ (x : ℕ). crc_from x (take (length s - h) (drop h s))) c.long-before.ensures
    ∙ ap (crc_from (crc_from a.state (take h s))) (part_to_end s h)
    ∙ sym (crc_from_append a.state (take h s) (drop h s))
    ∙ ap (crc_from a.state) (take-append-drop h s)
