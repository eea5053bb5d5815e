use mathlib.Core.Path.{ap, ◌∙◌}
use mathlib.Core.List.{List}
use lib.ListN.{length}
use Rattle.eif.specs.Stream.{copy_listed_answer, copy_listed_output}
use Rattle.eif.specs.declared.Copied.{Copied}
use Rattle.eif.specs.declared.Section.{Section}
use Rattle.eif_flat.specs.Flat.{flat_copied}
use Rattle.eif_c.proofs.sections.eif_copy_sections.Goals as goal

-- `eif_copy_sections` meets its contract: what it calls ensures the answer, made flat, of the list as it is taken. Assumes nothing.
pub returns : goal.returns
returns c = let a = c.args in
    let s = a.image.now in
    let o = a.out.now in
    let done = c.copy_listed.ensures in
    let e = c.read_sections.ensures in record { value = c.flat_copied.ensures ∙ ap (λ (x : Copied). flat_copied x) (done.value ∙ ap (λ (l : List Section). copy_listed_answer s (record { count = a.list.count; sections = l }) a.from.0 (length o)) e); out_after = done.out_after ∙ ap (λ (l : List Section). copy_listed_output s (record { count = a.list.count; sections = l }) a.from.0 o) e }
