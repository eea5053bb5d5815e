use Prim.Native.Nat.{◌+◌, ◌-◌, ◌≤◌}
use mathlib.Core.Path.{◌≡◌}
use lib.ListN.{length, drop}
use Rattle.octets.specs.Over.{over}
use Rattle.eif.specs.Numbers.{place_count}
use Rattle.eif.specs.Roll.{flags_record_size}
use Rattle.staged.specs.View.{held_by}
use Rattle.roll_writer.specs.Write.{roll_for}
use Rattle.roll_writer.proofs.put_roll.Given as goal

abbrev pub invariant-loop-i : goal.invariant-loop-i
invariant-loop-i l = (l.i ≤ place_count) × (length l.out ≡ length l.initial.out)
    × (l.at + length (roll_for (held_by l.base l.replacement) (drop l.i l.sections)) ≡ flags_record_size + length (roll_for (held_by l.base l.replacement) l.sections))
    × (over l.out l.at (roll_for (held_by l.base l.replacement) (drop l.i l.sections)) ≡ over l.initial.out flags_record_size (roll_for (held_by l.base l.replacement) l.sections))

abbrev pub decreases-loop-i : goal.decreases-loop-i
decreases-loop-i l = place_count - l.i
