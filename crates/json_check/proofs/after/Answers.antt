use borrow.Author.Rules.{rules}
use Rattle.json_check.proofs.Laws.{after_text, after_item, after_member}
use Rattle.json_check.proofs.after.Goals as goal

-- `json_check::after` meets its contract. Assumes nothing.
pub returns-then-stack-eq-NOTHING_OPEN : goal.returns-then-stack-eq-NOTHING_OPEN
returns-then-stack-eq-NOTHING_OPEN c = (after_text _ c.if-stack-eq-NOTHING_OPEN.true, search rules)

pub returns-then-stack-eq0 : goal.returns-then-stack-eq0
returns-then-stack-eq0 c = (after_item _ c.if-stack-eq-NOTHING_OPEN.false c.if-stack-eq0.true, search rules)

pub returns : goal.returns
returns c = (after_member _ c.if-stack-eq-NOTHING_OPEN.false c.if-stack-eq0.false, search rules)
