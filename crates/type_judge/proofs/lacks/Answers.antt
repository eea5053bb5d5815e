use mathlib.Core.Path.{sym, ap, ◌∙◌}
use mathlib.Core.Bool.{not}
use lib.ListN.{length}
use Rattle.type_judge.specs.Kinds.{listed_kind}
use Rattle.type_judge.proofs.Types.{boot_lacks, by_metadata, none_missing}
use Rattle.type_judge.proofs.lacks.Goals as goal
use Rattle.type_judge.proofs.lacks.Goals.{Else-lacks_boot}

-- `type_judge::lacks` meets its contract: each answer is the rule's, from what `lacks_boot` and `holds` found. Assumes nothing.
pub returns-then-lacks_boot : goal.returns-then-lacks_boot
returns-then-lacks_boot c = let a = c.args in
    boot_lacks (listed_kind a.kinds.now) a.version (length a.kinds.now) (sym c.lacks_boot.ensures ∙ c.if-lacks_boot.true)

pub returns-then-version-eq-METADATA_VERSION : goal.returns-then-version-eq-METADATA_VERSION
returns-then-version-eq-METADATA_VERSION c = let f = (goal.at.returns-then-version-eq-METADATA_VERSION c).Else-lacks_boot in
    let a = f.args in
    ap not c.holds.ensures
    ∙ by_metadata (listed_kind a.kinds.now) a.version (length a.kinds.now) (sym f.lacks_boot.ensures ∙ f.if-lacks_boot.false) c.if-version-eq-METADATA_VERSION.true

pub returns : goal.returns
returns c = let f = (goal.at.returns c).Else-lacks_boot in
    let a = f.args in
    none_missing (listed_kind a.kinds.now) a.version (length a.kinds.now) (sym f.lacks_boot.ensures ∙ f.if-lacks_boot.false) c.if-version-eq-METADATA_VERSION.false
