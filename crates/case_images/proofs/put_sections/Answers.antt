use Prim.Native.Nat.{ℕ, ◌-◌, min}
use mathlib.Core.Path.{◌≡◌, refl, ap, ◌∙◌}
use native.Mathlib.Omega.{arith}
use native.Mathlib.Numerals.{add-one}
use borrow.Author.Rules.{rules}
use lib.ListN.{length}
use Rattle.case_images.specs.Shapes.{most, start_of, packed_from, with_sections}
use Rattle.case_images.proofs.Next.{next_start, next_section}
use Rattle.case_images.proofs.put_sections.Goals as goal
use Rattle.case_images.proofs.put_sections.Goals.{After-lesser-size, After-wide}

-- `put_sections` meets its contract: each turn puts the next section, whose data starts where that of the one before ends.
-- Assumes nothing.
pub loop-i-init : goal.loop-i-init
unfolding start_of with_sections
loop-i-init c = (omega arith, omega arith, omega arith, refl, refl, refl)

pub loop-i-preserved : goal.loop-i-preserved
loop-i-preserved c = let p = c.put_section.ensures in
    let k = (goal.at.loop-i-preserved c).After-lesser-size in
    let w = (goal.at.After-lesser-size k).After-wide in
    let l = w.loop-i in
    let a = w.args in
    let n = k.lesser-size.ensures ∙ ap (λ (m : ℕ). min m (length a.lent.now - l.from)) w.wide.ensures.0 in
    let few = w.wide.ensures.1 in
    rw add-one (
      omega arith,
      omega arith,
      omega arith,
      search rules,
      next_start a.lengths l.from _ l.i (length a.lent.now) l.invariant.4 n,
      next_section a.image.now a.kinds a.own_flags a.lengths a.lent.now l.image _ l.from _ l.i l.invariant.4 n l.invariant.5 p,
    )

pub returns : goal.returns
returns c = let l = c.loop-i in
    let a = c.args in
    let few = c.lesser-count.ensures in
    let all : l.i ≡ min a.counted most = omega arith in record { value = ap (λ (i : ℕ). packed_from l.from i) few ∙ ap (λ (f : ℕ). packed_from f (min a.counted most)) (l.invariant.4 ∙ ap (start_of a.lengths (length a.lent.now)) all); image_after = l.invariant.5 ∙ ap (with_sections a.image.now a.kinds a.own_flags a.lengths a.lent.now) all }

pub shape_of-image : goal.shape_of-image
shape_of-image c = c.loop-i.invariant.3
