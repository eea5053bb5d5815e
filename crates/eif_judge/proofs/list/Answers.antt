use mathlib.Core.Path.{◌≡◌, ap₂, refl, ◌∙◌}
use mathlib.Core.List.{List}
use native.Mathlib.Omega.{arith}
use native.Mathlib.Numerals.{add-one}
use borrow.Author.Rules.{rules}
use lib.ListN.{set}
use Rattle.eif.specs.Numbers.{place_count}
use Rattle.eif.specs.Reading.{section, blank_section}
use Rattle.eif.specs.declared.Section.{Section}
use Rattle.eif_lemmas.proofs.Table.{filled_more}
use Rattle.eif_judge.specs.Kept.{view_from}
use Rattle.eif_judge.proofs.list.Goals as goal
use Rattle.eif_judge.proofs.list.Goals.{Start}

-- `eif_judge::list` meets its contract: before each turn the table holds the sections passed. The measure is how many are left.
-- Assumes nothing.
pub section_at-section-requires : goal.section_at-section-requires
section_at-section-requires c = let a = (goal.at.section_at-section-requires c).Start in
    record { i_lt_place_count = search rules; i_bound = a.requires.by_index c.loop-i.i (omega arith) }

pub loop-i-preserved : goal.loop-i-preserved
loop-i-preserved c = let l = c.loop-i in
    let a = (goal.at.loop-i-preserved c).Start in
    let v = view_from a.args.header.now a.args.headers.now a.args.size in
    let few = a.requires.count_le_place_count in (
      omega arith,
      ap₂ (λ (t : List Section) (x : Section). set t l.i x) l.invariant.1 c.section_at-section.ensures
          ∙ filled_more (section v) blank_section place_count l.i (omega (arith, few))
          ∙ rw add-one refl,
    )

pub returns : goal.returns
returns c = let l = c.loop-i in
    let e : l.i ≡ c.args.count = omega arith in
    rw e at l.invariant.1

pub loop-i-init : goal.loop-i-init
loop-i-init c = (search rules, refl)
