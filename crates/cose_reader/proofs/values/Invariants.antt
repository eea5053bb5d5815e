use Prim.Native.Nat.{◌+◌, ◌-◌, ◌*◌, ◌≤◌}
use mathlib.Core.Path.{◌≡◌}
use mathlib.Core.List.{◌++◌}
use lib.ListN.{length, take}
use Rattle.cose.specs.Sign1.{register_size}
use Rattle.cose.specs.Read.{bytes_from, bytes_end}
use Rattle.cose_reader.proofs.values.Given as goal

abbrev pub invariant-loop-i : goal.invariant-loop-i
invariant-loop-i l = (l.i ≤ register_size) × (l.at ≤ l.from + 2 * l.i) × (length l.value ≡ register_size)
    × (take l.i l.value ++ bytes_from l.s (register_size - l.i) l.at ≡ bytes_from l.s register_size l.from)
    × (bytes_end l.s (register_size - l.i) l.at ≡ bytes_end l.s register_size l.from)

abbrev pub decreases-loop-i : goal.decreases-loop-i
decreases-loop-i l = register_size - l.i
