use Prim.Native.Nat.{◌-◌, ◌≤◌}
use mathlib.Core.Path.{◌≡◌}
use Rattle.arriving_sections.specs.Span.{kept_kind}
use Rattle.arriving_registers.specs.Measuring.{ramdisks_at}
use Rattle.arriving_registers.proofs.ramdisks_before.Given as goal

abbrev pub invariant-loop-i : goal.invariant-loop-i
invariant-loop-i l = (l.i ≤ l.place) × (l.ramdisks ≤ l.i) × (l.ramdisks ≡ ramdisks_at (kept_kind l.headers) l.i)

abbrev pub decreases-loop-i : goal.decreases-loop-i
decreases-loop-i l = l.place - l.i
