use mathlib.Core.Path.{sym, ap, ◌∙◌}
use native.Mathlib.Omega.{arith}
use borrow.Author.Rules.{part_to_end}
use lib.ListN.{length}
use Rattle.octets.proofs.Same.{is_same}
use Rattle.assembler.specs.Records.{data_at}
use Rattle.assembler.proofs.Piece.{not_held, held_other}
use Rattle.assembler_judge.proofs.is_held_with_other.Goals as goal
use Rattle.assembler_judge.proofs.is_held_with_other.Goals.{After-le64-from, Start}

-- `assembler_judge::is_held_with_other` meets its contract: a held piece is compared with the bytes that stand in its place. Assumes nothing.
pub returns-then-not-is_held : goal.returns-then-not-is_held
returns-then-not-is_held c = let a = c.args in
    not_held a.sent.now a.marks.now a.image.now (sym c.is_held.ensures ∙ c.if-not-is_held.true)

pub slice_bounds-standing-end : goal.slice_bounds-standing-end
slice_bounds-standing-end c = let p = (goal.at.slice_bounds-standing-end c).Start in
    omega (arith, ap length (part_to_end p.args.sent.now data_at), c.le64-from.ensures, p.requires.sent_in_bounds)

pub returns : goal.returns
returns c = let a = c.args in
    let l = (goal.at.returns c).After-le64-from in
    let h = l.is_held.ensures in
    held_other a.sent.now a.marks.now a.image.now l.le64-from.result l.le64-from.ensures _ (part_to_end a.sent.now data_at)
    (sym h ∙ l.if-not-is_held.false) c.same.result
    (is_same c.same.result _ _ c.same.ensures.0 c.same.ensures.1)
