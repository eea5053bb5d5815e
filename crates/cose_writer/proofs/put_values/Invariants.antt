use Prim.Native.Nat.{◌+◌, ◌-◌, ◌*◌, ◌≤◌}
use mathlib.Core.Path.{◌≡◌}
use lib.ListN.{length, drop}
use Rattle.octets.specs.Over.{over}
use Rattle.cose.specs.Cbor.{numbers_bytes}
use Rattle.cose.specs.Sign1.{register_size}
use Rattle.cose_writer.proofs.put_values.Given as goal

abbrev pub invariant-loop-i : goal.invariant-loop-i
invariant-loop-i l = (l.i ≤ register_size) × (l.at ≤ l.from + 2 * l.i) × (length l.out ≡ length l.initial.out)
    × (l.at + length (numbers_bytes (drop l.i l.value)) ≡ l.from + length (numbers_bytes l.value))
    × (over l.out l.at (numbers_bytes (drop l.i l.value)) ≡ over l.initial.out l.from (numbers_bytes l.value))

abbrev pub decreases-loop-i : goal.decreases-loop-i
decreases-loop-i l = register_size - l.i
