use mathlib.Core.Path.{◌≡◌}
use lib.ListN.{length}
use Rattle.eif_assemble.proofs.take_records.Given as goal

abbrev pub invariant-loop-left : goal.invariant-loop-left
invariant-loop-left g l = (length l.image ≡ length l.initial.image) × (length l.marks ≡ length l.initial.marks)

abbrev pub decreases-loop-left : goal.decreases-loop-left
decreases-loop-left g l = l.left
