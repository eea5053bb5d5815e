use Prim.Native.Nat.{ℕ, ◌+◌, ◌^◌}
use mathlib.Core.Path.{sym, ap, ◌∙◌}
use native.Mathlib.Omega.{arith}
use Rattle.eif.specs.Roll.{record_head_size}
use Rattle.staged.specs.View.{held_by}
use Rattle.staged.proofs.Held.{held_within}
use Rattle.roll_writer.proofs.Steps.{size_in_holds, size_out}
use Rattle.roll_writer.proofs.record_size.Goals as goal
use Rattle.roll_writer.proofs.record_size.Goals.{After-is_boot, Start}

-- `roll_writer::record_size` meets its contract: a head and the data that lies there, or nothing, by the section's type.
pub overflow_add-result : goal.overflow_add-result
overflow_add-result c = let start = (goal.at.overflow_add-result c).Start in
    let a = start.args in
    let base_short = start.well_formed.0.1 in
    let given-short = start.well_formed.1.0.1 in
    let h = held_within a.base.now a.replacement.now a.x (2 ^ 63) (omega arith) (omega arith) in
    let e = c.held_length.ensures in
    omega arith

pub returns-then-is_boot : goal.returns-then-is_boot
returns-then-is_boot c = let b = (goal.at.returns-then-is_boot c).After-is_boot in
    let a = b.args in
    ap (λ (n : ℕ). record_head_size + n) c.held_length.ensures
    ∙ sym (size_in_holds (held_by a.base.now a.replacement.now) a.x (sym b.is_boot.ensures ∙ c.if-is_boot.true))

pub returns : goal.returns
returns c = let b = (goal.at.returns c).After-is_boot in
    let a = b.args in
    sym (size_out (held_by a.base.now a.replacement.now) a.x (sym b.is_boot.ensures ∙ c.if-is_boot.false))
