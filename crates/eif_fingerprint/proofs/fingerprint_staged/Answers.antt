use Prim.Native.Nat.{◌^◌, ◌<◌}
use borrow.Author.Rules.{rules}
use Rattle.eif_fingerprint.proofs.Answers.{staged_is}
use Rattle.eif_fingerprint.proofs.fingerprint_staged.Goals as goal
use Rattle.eif_fingerprint.proofs.fingerprint_staged.Goals.{After-judge-view}

-- `eif_fingerprint::fingerprint_staged` meets its contract: the verdict of the base's staged view, and the fingerprint by it.
flags-fit : (c : After-judge-view) → c.judge-view.result.flags < 2 ^ 16
flags-fit c = search rules

pub returns : goal.returns
returns c = let w = (goal.at.returns c).After-judge-view in
    let a = w.args in
    staged_is a.base.now a.replacement.now a.replaced w.judge-view.result w.judge-view.ensures (λ _. flags-fit w) c.step_view-digest.ensures
