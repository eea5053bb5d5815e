use Prim.Native.Nat.{◌+◌, ◌-◌, ◌≤◌, min}
use mathlib.Core.Path.{◌≡◌}
use lib.ListN.{length, drop}
use Rattle.eif.specs.Numbers.{place_count}
use Rattle.eif.specs.Roll.{flags_record_size}
use Rattle.staged.specs.View.{held_by}
use Rattle.roll_writer.specs.Write.{count_most, roll_for}
use Rattle.roll_writer.proofs.roll_size.Given as goal

abbrev pub invariant-loop-i : goal.invariant-loop-i
invariant-loop-i l = (l.i ≤ place_count)
    × (min (l.total + length (roll_for (held_by l.base l.replacement) (drop l.i l.sections))) count_most
    ≡ min (flags_record_size + length (roll_for (held_by l.base l.replacement) l.sections)) count_most)

abbrev pub decreases-loop-i : goal.decreases-loop-i
decreases-loop-i l = place_count - l.i
