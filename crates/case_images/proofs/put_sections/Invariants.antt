use Prim.Native.Nat.{◌-◌, ◌*◌, ◌≤◌}
use mathlib.Core.Path.{◌≡◌}
use lib.ListN.{length}
use Rattle.case_images.specs.Shapes.{start_of, with_sections}
use Rattle.case_images.proofs.put_sections.Given as goal

abbrev pub invariant-loop-i : goal.invariant-loop-i
invariant-loop-i l = (l.i ≤ l.count) × (l.from ≤ length l.lent) × (l.from ≤ 65535 * l.i) × (length l.image ≡ length l.initial.image)
    × (l.from ≡ start_of l.lengths (length l.lent) l.i) × (l.image ≡ with_sections l.initial.image l.kinds l.own_flags l.lengths l.lent l.i)

abbrev pub decreases-loop-i : goal.decreases-loop-i
decreases-loop-i l = l.count - l.i
