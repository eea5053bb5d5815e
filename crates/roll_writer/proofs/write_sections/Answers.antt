use Prim.Native.Nat.{ℕ, ◌+◌, ◌<◌}
use mathlib.Core.Path.{◌≡◌, ap, ◌∙◌}
use mathlib.Core.List.{List}
use native.Mathlib.Omega.{arith}
use lib.ListN.{length}
use Rattle.octets.specs.Over.{over}
use Rattle.octets.proofs.Over.{length_over}
use Rattle.eif.specs.Output.{written_for}
use Rattle.eif.specs.Roll.{flags_record_size, flags_record}
use Rattle.eif.specs.declared.Section.{Section}
use Rattle.eif.specs.declared.Verdict.TheVariants.{Accepted}
use Rattle.staged.specs.View.{held_by}
use Rattle.roll_writer.specs.Write.{count_most, roll_for, sections_roll}
use Rattle.roll_writer.proofs.Steps.{size_is, roll_is}
use Rattle.roll_writer.proofs.After.{after_refused, after_short, after_fine}
use Rattle.roll_writer.proofs.write_sections.Goals as goal
use Rattle.roll_writer.proofs.write_sections.Goals.{Else-out-size, Start}

-- `roll_writer::write_sections` meets its contract: the refusal, or by the roll's length one of two answers. No slice is as long as the largest
-- length that is counted, so a roll that fits was counted to its end.
-- the output, what holds the data, flags and sections
module _ (c : Start) where
  abbrev room : List ℕ
  room = c.args.out.now

  room-short : length room < count_most
  room-short = let h = c.well_formed.1.1.1.1.1.0.1 in omega arith

  abbrev held : Section → List ℕ
  held = held_by c.args.base.now c.args.replacement.now

  abbrev all : List Section
  all = c.args.sections

  abbrev roll : List ℕ
  roll = sections_roll c.args.flags held all

  -- what was counted, and the roll's length
  size : length roll ≡ flags_record_size + length (roll_for held all)
  size = let n = size_is held c.args.flags all in omega arith

pub returns-in_default : goal.returns-in_default
returns-in_default c = let start = (goal.at.returns-in_default c).Start in
    let t = c.in_default in
    let p = after_refused start.args.verdict (roll start) (room start) t.field-0 t.is in
    record { value = p.0; out_after = p.1 }

pub returns-then-out-size : goal.returns-then-out-size
returns-then-out-size c = let start = (goal.at.returns-then-out-size c).Start in
    let e = c.roll_size-size.ensures in
    let h = c.if-out-size.true in
    let n = size start in
    let p = after_short start.args.verdict (roll start) (room start) c.in-Accepted.is (omega arith) in
    record { value = rw c.refuse.ensures p.0; out_after = p.1 }

-- the roll fits, and has the length that was counted
module _ (c : Else-out-size) where
  abbrev start : Start
  start = (goal.at.Else-out-size c).Start

  counted : c.roll_size-size.result ≡ length (roll start)
  counted =
      let e = c.roll_size-size.ensures in
      let h = c.if-out-size.false in
      let n = size start in
      let b = room-short start in
      omega arith

pub put_flags-requires : goal.put_flags-requires
put_flags-requires c = let n = size (start (goal.at.put_flags-requires c).Else-out-size) in
    let e = counted (goal.at.put_flags-requires c).Else-out-size in
    omega (arith, c.if-out-size.false)

pub put_roll-requires : goal.put_roll-requires
put_roll-requires c = let z = (goal.at.put_roll-requires c).Else-out-size in
    let n = size (start z) in
    let e = counted z in
    let m = ap length c.put_flags.ensures ∙ length_over (room (start z)) 0 (flags_record (start z).args.flags) in
    omega (arith, z.if-out-size.false)

pub returns : goal.returns
returns c = let z = (goal.at.returns c).Else-out-size in
    let s = start z in
    let e = counted z in
    let f = after_fine s.args.verdict (roll s) (room s) z.in-Accepted.is (omega (arith, z.if-out-size.false)) in record {
      value = ap (written_for Accepted) e ∙ f.0;
      out_after = c.put_roll.ensures
          ∙ ap (λ (o : List ℕ). over o flags_record_size (roll_for (held s) (all s))) c.put_flags.ensures
          ∙ roll_is (held s) s.args.flags (all s) (room s) ∙ f.1;
    }
