use mathlib.Core.Path.{ap, ◌∙◌}
use lib.ListN.{length}
use Rattle.eif.specs.declared.Reading.{Reading}
use Rattle.staged.specs.Listed.{listed_shown, listed_start}
use Rattle.staged.proofs.Listed.{shown_agrees, start_agrees}
use Rattle.staged_view.proofs.section.Goals as goal

-- `staged_view::section` meets its contract: what is shown from the base's own reading is what the base shows. Assumes nothing.
pub returns : goal.returns
returns c = let a = c.args in
    let s = a.base.now in
    let r = a.replacement.now in
    let k = a.replaced in
    let j = a.shown in
    let e = c.read-reading.ensures in record {
      result_value = c.section_listed.ensures.result_value ∙ ap (λ (x : Reading). listed_shown s r x k j) e ∙ shown_agrees s r k j;
      ref_ptr_value = c.section_listed.ensures.ref_ptr_value ∙ ap (λ (x : Reading). listed_start s (length r) x k j a.base.ref_ptr a.replacement.ref_ptr) e
          ∙ start_agrees s (length r) k j a.base.ref_ptr a.replacement.ref_ptr;
    }
