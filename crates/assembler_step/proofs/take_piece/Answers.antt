use Prim.Native.Nat.{ℕ, ◌/◌}
use mathlib.Core.Path.{ap, ap₂, ◌∙◌}
use mathlib.Core.Bool.{true, false}
use mathlib.Core.List.{List}
use native.Mathlib.Omega.{arith}
use borrow.Author.Rules.{part_to_end}
use lib.ListN.{set}
use Rattle.octets.specs.Over.{over}
use Rattle.assembler.specs.Records.{data_at, piece_size}
use Rattle.assembler.proofs.Piece.{held_yes, held_no, piece_left}
use Rattle.assembler_step.proofs.take_piece.Goals as goal

-- `assembler_step::take_piece` meets its contract: a held piece changes nothing, another writes its bytes and its mark. Assumes nothing.
pub returns-then-marks-place-ne0 : goal.returns-then-marks-place-ne0
returns-then-marks-place-ne0 c = let a = c.args in
    let l = c.le64-start in
    let p = piece_left a.sent.now a.marks.now a.image.now true (held_yes a.sent.now a.marks.now l.result l.ensures (λ e. omega arith)) in
    record { image_after = p.0; marks_after = p.1 }

pub returns : goal.returns
returns c = let a = c.args in
    let l = c.le64-start in
    let p = piece_left a.sent.now a.marks.now a.image.now false (held_no a.sent.now a.marks.now l.result l.ensures (omega arith)) in record {
      image_after = c.copy.ensures
          ∙ ap₂ (λ (n : ℕ) (b : List ℕ). over a.image.now n b) l.ensures (part_to_end a.sent.now data_at) ∙ p.0;
      marks_after = ap (λ (n : ℕ). set a.marks.now (n / piece_size) 1) l.ensures ∙ p.1;
    }
