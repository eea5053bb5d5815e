use Prim.Native.Nat.{◌+◌, min}
use mathlib.Core.Path.{sym, ap, ◌∙◌}
use lib.ListN.{length}
use Rattle.eif.specs.Reading.{data_of}
use Rattle.eif.specs.declared.Section.{Section}
use Rattle.staged.proofs.Held.{held_base, held_after, start_base, start_after}
use Rattle.staged_view.proofs.held.Goals as goal

-- `staged_view::held` meets its contract: its test is that of the definition. Assumes nothing.
pub returns-then-at-base : goal.returns-then-at-base
returns-then-at-base c = let a = c.args in record { result_value = c.section_data.ensures.result_value ∙ sym (held_base a.base.now a.replacement.now a.x c.if-at-base.true); ref_ptr_value = c.section_data.ensures.ref_ptr_value ∙ sym (start_base a.base.now a.replacement.now a.x a.base.ref_ptr a.replacement.ref_ptr c.if-at-base.true) }

pub returns : goal.returns
returns c = let a = c.args in
    let m = c.moved_to-after.ensures in record {
      result_value = c.section_data-2.ensures.result_value ∙ ap (data_of a.replacement.now) m ∙ sym (held_after a.base.now a.replacement.now a.x c.if-at-base.false);
      ref_ptr_value = c.section_data-2.ensures.ref_ptr_value
          ∙ ap (λ (x : Section). (a.replacement.ref_ptr.0, a.replacement.ref_ptr.1 + min x.position.0 (length a.replacement.now))) m
          ∙ sym (start_after a.base.now a.replacement.now a.x a.base.ref_ptr a.replacement.ref_ptr c.if-at-base.false);
    }
