use Prim.Native.Nat.{◌+◌, ◌-◌, ◌*◌, ◌≤◌}
use mathlib.Core.Path.{◌≡◌}
use lib.ListN.{length, drop}
use Rattle.cose.specs.Cbor.{numbers_bytes}
use Rattle.cose.specs.Sign1.{register_size}
use Rattle.cose_writer.proofs.value_size.Given as goal

abbrev pub invariant-loop-i : goal.invariant-loop-i
invariant-loop-i l = (l.i ≤ register_size) × (l.i ≤ l.total) × (l.total ≤ 2 * l.i) × (l.total + length (numbers_bytes (drop l.i l.value)) ≡ length (numbers_bytes l.value))

abbrev pub decreases-loop-i : goal.decreases-loop-i
decreases-loop-i l = register_size - l.i
