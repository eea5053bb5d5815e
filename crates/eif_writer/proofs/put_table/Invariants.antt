use Prim.Native.Nat.{◌+◌, ◌-◌, ◌*◌, ◌≤◌}
use mathlib.Core.Path.{◌≡◌}
use lib.ListN.{length, drop}
use Rattle.octets.specs.Bytes.{be_bytes_each}
use Rattle.octets.specs.Over.{over}
use Rattle.eif.specs.Numbers.{place_count}
use Rattle.eif.specs.Layout.{entry_size}
use Rattle.eif_writer.proofs.put_table.Given as goal

abbrev pub invariant-loop-i : goal.invariant-loop-i
invariant-loop-i l = (l.i ≤ place_count) × (length l.out ≡ length l.initial.out) × (over l.out (l.at + entry_size * l.i) (be_bytes_each entry_size (drop l.i l.table)) ≡ over l.initial.out l.at (be_bytes_each entry_size l.table))

abbrev pub decreases-loop-i : goal.decreases-loop-i
decreases-loop-i l = place_count - l.i
