use Prim.Native.Nat.{◌-◌, ◌≤◌}
use mathlib.Core.Path.{◌≡◌}
use Rattle.eif.specs.Numbers.{size_limit}
use Rattle.eif.specs.Layout.{header_size}
use Rattle.arriving_sections.specs.Span.{span_from}
use Rattle.arriving_sections.proofs.walk.Given as goal

abbrev pub invariant-loop-i : goal.invariant-loop-i
invariant-loop-i l = (l.i ≤ l.used) × (l.begin ≤ size_limit) × (span_from l.header (l.used - l.i) l.i l.begin l.taken l.length ≡ span_from l.header l.used 0 header_size l.taken l.length)

abbrev pub decreases-loop-i : goal.decreases-loop-i
decreases-loop-i l = l.used - l.i
