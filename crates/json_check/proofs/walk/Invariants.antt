use Prim.Native.Nat.{◌-◌, ◌<◌, ◌≤◌}
use mathlib.Core.Path.{◌≡◌}
use lib.ListN.{length, drop}
use Rattle.json_machine.specs.Machine.{fault_entry, walk_from, json_verdict}
use Rattle.json_check.proofs.walk.Given as goal

abbrev pub invariant-loop-i : goal.invariant-loop-i
invariant-loop-i l = (l.i ≤ length l.text) × (l.state.mode < fault_entry) × (walk_from l.state.mode l.state.stack l.i (drop l.i l.text) ≡ json_verdict l.text)

abbrev pub decreases-loop-i : goal.decreases-loop-i
decreases-loop-i l = length l.text - l.i
