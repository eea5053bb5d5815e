use mathlib.Core.Path.{sym, ap, ◌∙◌}
use lib.ListN.{length}
use Rattle.eif.specs.Reading.{data_of}
use Rattle.staged.proofs.Held.{held_base, held_after}
use Rattle.staged_view.proofs.held_length.Goals as goal

-- `staged_view::held_length` meets its contract: its test is that of the definition.
pub returns-then-at-base : goal.returns-then-at-base
returns-then-at-base c = let a = c.args in
    ap length (c.section_data-own.ensures.result_value ∙ sym (held_base a.base.now a.replacement.now a.x c.if-at-base.true))

pub returns : goal.returns
returns c = let a = c.args in
    ap length
    (c.section_data-given.ensures.result_value ∙ ap (data_of a.replacement.now) c.moved_to-after.ensures
    ∙ sym (held_after a.base.now a.replacement.now a.x c.if-at-base.false))
