use Prim.Native.Nat.{◌-◌, ◌<◌, ◌≤◌}
use mathlib.Core.Path.{refl, sym, ◌∙◌}
use native.Mathlib.Omega.{arith}
use borrow.Author.Rules.{rules}
use lib.ListN.{length, drop, length-drop}
use Rattle.arriving_sections.proofs.Parts.{parts_none, parts_step, part_fits, part_least}
use Rattle.arriving_fingerprint.proofs.take_bytes.Goals as goal
use Rattle.arriving_fingerprint.proofs.take_bytes.Goals.{After-next-span}

-- `arriving_fingerprint::take_bytes` meets its contract: the rest of the piece, taken from the current state, gives the same state as the whole
-- piece taken from the first. Each part has at least one byte, so the measure, the number of bytes left, falls.
-- a part has at least one byte, and ends inside the piece
module _ (c : After-next-span) where
  fits : c.next-span.result.length ≤ length c.args.piece.now - c.loop-at.at
  fits = part_fits c.loop-at.state.arriving _ (omega arith) c.next-span.ensures

  least : 0 < c.next-span.result.length
  least = part_least c.loop-at.state.arriving _ (omega arith) c.next-span.ensures

pub loop-at-preserved : goal.loop-at-preserved
loop-at-preserved c = let n = (goal.at.loop-at-preserved c).After-next-span in
    let l = n.loop-at in
    let piece = n.args.piece.now in
    (omega (arith, fits n), parts_step _ _ l.state piece l.at (omega arith) n.next-span.ensures c.take_part.ensures ∙ l.invariant.1)

pub returns : goal.returns
returns c = let l = c.loop-at in
    let piece = c.args.piece.now in
    sym (parts_none _ _ l.state (drop l.at piece) (length-drop l.at piece ∙ omega arith)) ∙ l.invariant.1

pub loop-at-init : goal.loop-at-init
loop-at-init c = (omega arith, refl)

pub overflow_add-end : goal.overflow_add-end
overflow_add-end c = omega (arith, fits (goal.at.overflow_add-end c).After-next-span)

pub slice_bounds-take_part-count : goal.slice_bounds-take_part-count
slice_bounds-take_part-count c = omega (arith, fits (goal.at.slice_bounds-take_part-count c).After-next-span)

pub slice_bounds-take_part-start : goal.slice_bounds-take_part-start
slice_bounds-take_part-start c = omega (arith, fits (goal.at.slice_bounds-take_part-start c).After-next-span)

pub slice_bounds-take_part-end : goal.slice_bounds-take_part-end
slice_bounds-take_part-end c = let h = fits (goal.at.slice_bounds-take_part-end c).After-next-span in search rules

pub loop-at-smaller : goal.loop-at-smaller
loop-at-smaller c = omega (arith, fits (goal.at.loop-at-smaller c).After-next-span, least (goal.at.loop-at-smaller c).After-next-span)
