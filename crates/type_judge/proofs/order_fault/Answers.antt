use mathlib.Core.Path.{sym, ◌∙◌}
use lib.ListN.{length}
use Rattle.type_judge.specs.Kinds.{listed_kind}
use Rattle.type_judge.proofs.Types.{after_kernel, before_kernel, second_of_type, first_of_type}
use Rattle.type_judge.proofs.order_fault.Goals as goal

-- `type_judge::order_fault` meets its contract: each answer is the rule's, from what `holds` found. Assumes nothing.
pub returns-then-holds : goal.returns-then-holds
returns-then-holds c = let a = c.args in
    after_kernel (listed_kind a.kinds.now) a.kind (length a.kinds.now) c.if-kind-eq-RAMDISK.true (sym c.holds.ensures ∙ c.if-holds.true)

pub returns-then-kind-eq-RAMDISK : goal.returns-then-kind-eq-RAMDISK
returns-then-kind-eq-RAMDISK c = let a = c.args in
    before_kernel (listed_kind a.kinds.now) a.kind (length a.kinds.now) c.if-kind-eq-RAMDISK.true (sym c.holds.ensures ∙ c.if-holds.false)

pub returns-then-holds-2 : goal.returns-then-holds-2
returns-then-holds-2 c = let a = c.args in
    second_of_type (listed_kind a.kinds.now) a.kind (length a.kinds.now) c.if-kind-eq-RAMDISK.false (sym c.holds-2.ensures ∙ c.if-holds-2.true)

pub returns : goal.returns
returns c = let a = c.args in
    first_of_type (listed_kind a.kinds.now) a.kind (length a.kinds.now) c.if-kind-eq-RAMDISK.false (sym c.holds-2.ensures ∙ c.if-holds-2.false)
