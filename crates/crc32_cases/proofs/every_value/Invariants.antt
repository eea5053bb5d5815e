use Prim.Native.Nat.{◌-◌}
use mathlib.Core.Path.{◌≡◌}
use lib.ListN.{length}
use Rattle.crc32_cases.proofs.every_value.Given as goal

abbrev pub invariant-loop-next : goal.invariant-loop-next
invariant-loop-next l = 256 ≡ length l.values

abbrev pub decreases-loop-next : goal.decreases-loop-next
decreases-loop-next l = 255 - l.next
