use Prim.Native.Nat.{ℕ, ◌<◌, ◌≤◌}
use mathlib.Core.Path.{◌≡◌, sym, ap, ◌∙◌}
use mathlib.Core.List.{List}
use lib.ListN.{drop}
use Rattle.eif.specs.Numbers.{place_count}
use Rattle.eif.specs.Table.{filled}
use Rattle.eif.specs.Layout.{View, end}
use Rattle.eif.specs.Reading.{section, blank_section, sections, mark_of}
use Rattle.eif.specs.declared.Section.{Section}
use Rattle.eif_lemmas.proofs.Mark.{mark_unused}
use Rattle.eif_judge.specs.Kept.{view_from}
use Rattle.eif_judge.proofs.Complete.{sections_lie}
use Rattle.eif_judge.proofs.accepted.Goals as goal
use Rattle.eif_judge.proofs.accepted.Goals.{After-be16-count, After-list-sections}

-- `eif_judge::accepted` meets its contract: each field is what was read. Assumes nothing.
module _ (c : After-be16-count) where
  abbrev view : View
  view = view_from c.args.header.now c.args.headers.now c.args.size

  few : c.be16-count.result ≤ place_count
  few = rw c.be16-count.ensures (sections_lie view c.requires).0

  lie : (k : ℕ) → k < c.be16-count.result → end view k ≤ view.size
  lie k h = (sections_lie view c.requires).1 k (rw c.be16-count.ensures at h)

pub returns : goal.returns
returns c = let l = (goal.at.returns c).After-list-sections in
    let e : l.list-sections.result ≡ sections (view (goal.at.After-list-sections l).After-be16-count) = l.list-sections.ensures ∙ ap (filled (section (view (goal.at.After-list-sections l).After-be16-count)) blank_section place_count) l.be16-count.ensures in
    cc

pub mark-requires : goal.mark-requires
mark-requires c = let l = (goal.at.mark-requires c).After-list-sections in
    (few (goal.at.After-list-sections l).After-be16-count, mark_unused (section (view (goal.at.After-list-sections l).After-be16-count)) place_count l.be16-count.result ∙ ap (λ (t : List Section). mark_of (drop l.be16-count.result t)) (sym l.list-sections.ensures))

pub list-sections-requires : goal.list-sections-requires
list-sections-requires c = record { count_le_place_count = few c; by_index = lie c }
