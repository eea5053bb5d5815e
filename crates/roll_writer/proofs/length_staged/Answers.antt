use Prim.Native.Nat.{◌^◌, ◌<◌}
use mathlib.Core.Path.{◌∙◌}
use borrow.Author.Rules.{rules}
use Rattle.roll_writer.proofs.Staging.{length_is}
use Rattle.roll_writer.proofs.length_staged.Goals as goal
use Rattle.roll_writer.proofs.length_staged.Goals.{After-judge-view}

-- `roll_writer::length_staged` meets its contract: the length from the base's staged view is that of the image written afresh. Assumes nothing.
flags-fit : (c : After-judge-view) → c.judge-view.result.flags < 2 ^ 16
flags-fit c = search rules

pub returns : goal.returns
returns c = let w = (goal.at.returns c).After-judge-view in
    let a = w.args in
    c.length_view.ensures
    ∙ length_is a.base.now a.replacement.now a.replaced w.judge-view.result w.judge-view.ensures (λ _. flags-fit w)
