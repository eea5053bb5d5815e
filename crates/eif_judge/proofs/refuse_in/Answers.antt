use mathlib.Core.Path.{ap, ◌∙◌}
use Rattle.eif.specs.Answers.{refuse_at}
use Rattle.eif_judge.proofs.refuse_in.Goals as goal

-- `eif_judge::refuse_in` meets its contract: what it calls ensures it. Assumes nothing.
pub returns : goal.returns
returns c = let a = c.args in
    c.refuse_at.ensures ∙ ap (refuse_at a.number a.index) c.position-at.ensures
