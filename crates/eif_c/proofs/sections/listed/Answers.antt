use mathlib.Core.Path.{ap, ◌∙◌}
use mathlib.Core.List.{List}
use Prim.Native.Nat.{ℕ}
use Rattle.eif.specs.Stream.{sections_answer}
use Rattle.eif.specs.declared.StreamSections.{StreamSections}
use Rattle.eif_c.specs.Listed.{flat_listed}
use Rattle.eif_flat.specs.declared.EifSection.{EifSection}
use Rattle.eif_c.specs.declared.sections.EifStreamSections.{EifStreamSections}
use Rattle.eif_c.proofs.sections.listed.Goals as goal

-- `sections::listed` meets its contract: the sections are taken as they are, and the stream's made flat. Assumes nothing.
pub returns : goal.returns
returns c = let list = c.sections-list in
    let a = c.args in
    ap (λ (l : List EifSection). answer list.result.count l) c.flat_sections.ensures
    ∙ ap (λ (l : StreamSections). flat_listed l) (list.ensures ∙ ap (sections_answer a.stream) c.read_sections.ensures)
  where
    answer : ℕ → List EifSection → EifStreamSections
    answer n l = record { count = n; sections = l }
