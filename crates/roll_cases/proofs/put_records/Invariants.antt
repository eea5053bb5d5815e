-- Each record has at most 72 bytes of data, all of them within what is lent.
use Prim.Native.Nat.{◌-◌, ◌*◌, ◌≤◌}
use mathlib.Core.Path.{◌≡◌}
use lib.ListN.{length}
use Rattle.roll_cases.proofs.put_records.Given as goal

abbrev pub invariant-loop-i : goal.invariant-loop-i
invariant-loop-i l = (l.i ≤ 5) × (l.at ≤ 82 * l.i) × (l.from ≤ length l.lent) × (length l.roll ≡ length l.initial.roll)

abbrev pub decreases-loop-i : goal.decreases-loop-i
decreases-loop-i l = 5 - l.i
