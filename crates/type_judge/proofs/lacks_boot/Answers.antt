use mathlib.Core.Path.{sym, ap, ◌∙◌}
use mathlib.Core.Bool.{not}
use lib.ListN.{length}
use Rattle.type_judge.specs.Kinds.{listed_kind}
use Rattle.type_judge.proofs.Types.{no_kernel, by_command_line}
use Rattle.type_judge.proofs.lacks_boot.Goals as goal
use Rattle.type_judge.proofs.lacks_boot.Goals.{Else-not-holds}

-- `type_judge::lacks_boot` meets its contract: each answer is the rule's, from what `holds` found. Assumes nothing.
pub returns-then-not-holds : goal.returns-then-not-holds
returns-then-not-holds c = let a = c.args in
    no_kernel (listed_kind a.kinds.now) (length a.kinds.now) (sym c.holds.ensures ∙ c.if-not-holds.true)

pub returns : goal.returns
returns c = let f = (goal.at.returns c).Else-not-holds in
    let a = f.args in
    ap not c.holds-2.ensures ∙ by_command_line (listed_kind a.kinds.now) (length a.kinds.now) (sym f.holds.ensures ∙ f.if-not-holds.false)
