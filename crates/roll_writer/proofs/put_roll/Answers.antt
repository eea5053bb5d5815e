use Prim.Native.Nat.{ℕ, suc}
use mathlib.Core.Path.{◌≡◌, refl, sym, ap, ap₂, ◌∙◌}
use mathlib.Core.List.{List}
use native.Mathlib.Omega.{arith}
use native.Mathlib.Numerals.{add-one}
use borrow.Author.Rules.{rules}
use lib.ListN.{length, drop, get_or}
use Rattle.octets.specs.Over.{over}
use Rattle.octets.proofs.Over.{length_over}
use Rattle.eif.specs.Numbers.{place_count}
use Rattle.eif.specs.Reading.{blank_section}
use Rattle.eif.specs.Roll.{head_of, end_type}
use Rattle.staged.specs.View.{held_by}
use Rattle.roll_writer.specs.Write.{roll_part, roll_for}
use Rattle.roll_writer.proofs.Steps.{size_step, size_end, roll_over, roll_end}
use Rattle.roll_writer.proofs.put_roll.Goals as goal
use Rattle.roll_writer.proofs.put_roll.Goals.{Start}

-- `roll_writer::put_roll` meets its contract: the roll of the rest from here, over the output as it stands, gives the whole roll over the
-- first output. Assumes nothing.
pub loop-i-init : goal.loop-i-init
loop-i-init c = (omega arith, refl, refl, refl)

pub put_record-at-requires : goal.put_record-at-requires
put_record-at-requires c = let a = c.args in
    let l = c.loop-i in
    let size : length a.sections ≡ place_count = search rules in
    let e = size_step (held_by a.base.now a.replacement.now) a.sections l.i (omega arith) in
    omega arith

pub loop-i-preserved : goal.loop-i-preserved
loop-i-preserved c = let start = (goal.at.loop-i-preserved c).Start in
    let l = c.loop-i in
    let s = held_by start.args.base.now start.args.replacement.now in
    let t = start.args.sections in
    let p = c.put_record-at.ensures in
    let size : length t ≡ place_count = search rules in
    let e = size_step s t l.i (omega arith) in
    rw add-one (
      omega arith,
      ap length p.out_after ∙ length_over l.out l.at (roll_part s (get_or t l.i blank_section)) ∙ l.invariant.1,
      omega arith,
      ap₂ (λ (d : List ℕ) (n : ℕ). over d n (roll_for s (drop (suc l.i) t))) p.out_after p.value
          ∙ roll_over s t l.i (omega arith) l.out l.at ∙ l.invariant.3,
    )

pub put_head-requires : goal.put_head-requires
put_head-requires c = let a = c.args in
    let size : length a.sections ≡ place_count = search rules in
    let e = size_end (held_by a.base.now a.replacement.now) a.sections c.loop-i.i (omega arith) in
    omega arith

pub shape_of-out : goal.shape_of-out
shape_of-out c = let l = c.loop-i in
    ap length c.put_head.ensures ∙ length_over l.out l.at (head_of 0 end_type) ∙ l.invariant.1

pub returns : goal.returns
returns c = let a = c.args in
    let l = c.loop-i in
    let size : length a.sections ≡ place_count = search rules in
    c.put_head.ensures
    ∙ ap (over l.out l.at) (sym (roll_end (held_by a.base.now a.replacement.now) a.sections l.i (omega arith))) ∙ l.invariant.3
