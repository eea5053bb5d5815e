use Prim.Native.Nat.{ℕ, ◌+◌}
use mathlib.Core.Path.{◌≡◌, sym, ap, ◌∙◌}
use mathlib.Core.List.{List}
use native.Mathlib.Omega.{arith}
use lib.ListN.{length}
use Rattle.octets.specs.Over.{over}
use Rattle.eif.specs.Roll.{record_head_size, head_of}
use Rattle.eif.specs.declared.Section.{Section}
use Rattle.staged.specs.View.{held_by}
use Rattle.roll_writer.specs.Write.{roll_part}
use Rattle.roll_writer.proofs.Steps.{size_in_holds, size_out, part_over, part_none}
use Rattle.roll_writer.proofs.put_record.Goals as goal
use Rattle.roll_writer.proofs.put_record.Goals.{After-held-own}

-- `roll_writer::put_record` meets its contract: the head, and then the data as it lies, are the record.
-- Assumes nothing.
-- the section's data is known
module _ (c : After-held-own) where
  abbrev section : Section
  section = c.args.x

  abbrev held : Section → List ℕ
  held = held_by c.args.base.now c.args.replacement.now

  own-length : length c.held-own.result.now ≡ length (held section)
  own-length = ap length c.held-own.ensures.result_value

  size_is : length (roll_part held section) ≡ record_head_size + length (held section)
  size_is = size_in_holds held section (sym c.is_boot.ensures ∙ c.if-is_boot.true)

pub put_head-requires : goal.put_head-requires
put_head-requires c = let e = size_is (goal.at.put_head-requires c).After-held-own in omega arith

pub overflow_add-result-then-is_boot : goal.overflow_add-result-then-is_boot
overflow_add-result-then-is_boot c = let t = (goal.at.overflow_add-result-then-is_boot c).After-held-own in
    let e = size_is t in
    let n = own-length t in
    omega arith

pub returns-then-is_boot : goal.returns-then-is_boot
returns-then-is_boot c = let t = (goal.at.returns-then-is_boot c).After-held-own in
    let a = t.args in
    let e = size_is t in
    let n = own-length t in
    let head = c.put_head.ensures in record {
      value = omega arith;
      out_after = c.copy.ensures
          ∙ ap (λ (d : List ℕ). over d (a.at + record_head_size) t.held-own.result.now) head
          ∙ ap (λ (b : List ℕ). over (over a.out.now a.at (head_of (length b) a.x.kind)) (a.at + record_head_size) b) t.held-own.ensures.result_value
          ∙ part_over (held t) a.x (sym t.is_boot.ensures ∙ t.if-is_boot.true) a.out.now a.at;
    }

pub returns-else-is_boot : goal.returns-else-is_boot
returns-else-is_boot c = let a = c.args in
    let e = sym c.is_boot.ensures ∙ c.if-is_boot.false in
    let held = held_by a.base.now a.replacement.now in
    let n = size_out held a.x e in
    record { value = omega arith; out_after = part_none held a.x e a.out.now a.at }
