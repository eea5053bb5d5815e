use Prim.Native.Nat.{◌^◌, ◌<◌}
use mathlib.Core.Path.{◌∙◌}
use borrow.Author.Rules.{rules}
use lib.ListN.{length}
use Rattle.roll_writer.proofs.Staging.{answer_is, output_is}
use Rattle.roll_writer.proofs.write_staged.Goals as goal
use Rattle.roll_writer.proofs.write_staged.Goals.{After-judge-view}

-- `roll_writer::write_staged` meets its contract: the roll from the base's staged view is that of the image written afresh. Assumes nothing.
flags-fit : (c : After-judge-view) → c.judge-view.result.flags < 2 ^ 16
flags-fit c = search rules

pub returns : goal.returns
returns c = let w = (goal.at.returns c).After-judge-view in
    let a = w.args in
    let s = a.base.now in
    let r = a.replacement.now in
    let d = a.out.now in
    let q = c.write_view.ensures in record { value = q.value ∙ answer_is s r a.replaced w.judge-view.result w.judge-view.ensures (λ _. flags-fit w) (length d); out_after = q.out_after ∙ output_is s r a.replaced w.judge-view.result w.judge-view.ensures (λ _. flags-fit w) d }
