use Prim.Native.Nat.{ℕ, ◌+◌, ◌-◌, ◌≤◌}
use mathlib.Core.Path.{◌≡◌, refl, sym, ap, ap₂, ◌∙◌}
use mathlib.Core.List.{List}
use native.Mathlib.Omega.{arith}
use native.Mathlib.Numerals.{add-one}
use native.Mathlib.Nat.{sub-zero}
use borrow.Author.Rules.{rules}
use lib.ListN.{length, take, drop}
use Rattle.octets.specs.Over.{over}
use Rattle.octets.proofs.Over.{length_over}
use Rattle.eif.specs.Numbers.{size_limit}
use Rattle.eif.specs.Layout.{section_header_size}
use Rattle.eif.specs.Plan.{place_at, planned_size, piece_at, section_header}
use Rattle.eif.specs.declared.Place.{Place}
use Rattle.plain_laws.proofs.Shape.{packed_zero, packed_suc, before_zero, before_suc}
use Rattle.eif_writer.proofs.Pieces.{ends_inside, data_inside, section_over, sections_done}
use Rattle.eif_writer.proofs.put_sections.Goals as goal
use Rattle.eif_writer.proofs.put_sections.Goals.{After-copy, After-copy-in-loop-i, After-section_header-own, In-loop-i}

-- `eif_writer::put_sections` meets its contract: what is left of the sections, written from the position reached, makes
-- the whole; the two positions reached are those of section i. Assumes nothing.
pub loop-i-init : goal.loop-i-init
loop-i-init c = let l = c.args.places in
    (omega arith, sym (packed_zero (planned_size l)), sym (before_zero l), refl, rw sub-zero refl)

-- where section i ends, and the data that it takes
module _ (c : In-loop-i) where
  abbrev l : List Place
  l = c.args.places

  abbrev count : ℕ
  count = c.args.count

  abbrev lent : List ℕ
  lent = c.args.lent.now

  abbrev i : ℕ
  i = c.loop-i.i

  ends : c.loop-i.at + section_header_size + planned_size l i ≤ size_limit
  ends = let h = ends_inside l count i (omega arith) (omega arith) in omega arith

  takes : c.loop-i.from + planned_size l i ≤ length lent
  takes = let h = data_inside l count i (omega arith) lent (omega arith) in omega arith

pub overflow_add-next : goal.overflow_add-next
overflow_add-next c = let h = takes (goal.at.overflow_add-next c).In-loop-i in omega arith

pub loop-i-preserved : goal.loop-i-preserved
loop-i-preserved c = let y = (goal.at.loop-i-preserved c).After-copy-in-loop-i in
    let x = (goal.at.After-copy-in-loop-i y).After-copy in
    let s = (goal.at.After-copy x).After-section_header-own in
    let t = (goal.at.After-section_header-own s).In-loop-i in
    let v = t.loop-i in
    let o = x.copy.new.out in
    let g : o ≡ over v.out v.at (section_header (place_at (l t) (i t))) = x.copy.ensures ∙ ap (over v.out v.at) s.section_header-own.ensures in
    let h = packed_suc (planned_size (l t)) (i t) in
    let k = before_suc (l t) (i t) in
    let n : v.from + planned_size (l t) (i t) - v.from ≡ planned_size (l t) (i t) = omega arith in
    let e : y.copy-in-loop-i.new.out ≡ over o (v.at + section_header_size) (piece_at (l t) (lent t) (i t)) =
    y.copy-in-loop-i.ensures ∙ ap₂ (λ (m j : ℕ). over o (v.at + section_header_size) (take m (drop j (lent t)))) n v.invariant.2 in
    rw add-one (
      omega arith,
      omega arith,
      omega arith,
      ap length e ∙ length_over o (v.at + section_header_size) (piece_at (l t) (lent t) (i t)) ∙ ap length g
          ∙ length_over v.out v.at (section_header (place_at (l t) (i t))) ∙ v.invariant.3,
      section_over (l t) (count t) (i t) (omega arith) (lent t) (omega arith) v.out o y.copy-in-loop-i.new.out v.at g e ∙ v.invariant.4,
    )

pub returns : goal.returns
returns c = let a = c.args in
    let v = c.loop-i in
    sym (sections_done a.places a.lent.now v.i (a.count - v.i) (omega arith) v.out v.at) ∙ v.invariant.4

pub overflow_add-at : goal.overflow_add-at
overflow_add-at c = let h = ends (goal.at.overflow_add-at c).In-loop-i in omega arith

pub slice_bounds-copy-start : goal.slice_bounds-copy-start
slice_bounds-copy-start c = let h = takes (goal.at.slice_bounds-copy-start c).In-loop-i in search rules

pub slice_bounds-copy-end-in-loop-i : goal.slice_bounds-copy-end-in-loop-i
slice_bounds-copy-end-in-loop-i c = let h = takes (goal.at.slice_bounds-copy-end-in-loop-i c).In-loop-i in search rules

pub overflow_add-at-in-loop-i : goal.overflow_add-at-in-loop-i
overflow_add-at-in-loop-i c = let h = ends (goal.at.overflow_add-at-in-loop-i c).In-loop-i in omega arith

pub overflow_add-at-in-loop-i-2 : goal.overflow_add-at-in-loop-i-2
overflow_add-at-in-loop-i-2 c = let h = ends (goal.at.overflow_add-at-in-loop-i-2 c).In-loop-i in omega arith

pub shape_of-out : goal.shape_of-out
shape_of-out c = c.loop-i.invariant.3
