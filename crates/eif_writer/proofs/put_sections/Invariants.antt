use Prim.Native.Nat.{◌-◌, ◌≤◌}
use mathlib.Core.Path.{◌≡◌}
use lib.ListN.{length}
use Rattle.octets.specs.Over.{over}
use Rattle.eif.specs.Layout.{header_size}
use Rattle.eif.specs.Plan.{packed_at, data_before, section_bytes}
use Rattle.eif.specs.Table.{join_from}
use Rattle.eif_writer.proofs.put_sections.Given as goal

abbrev pub invariant-loop-i : goal.invariant-loop-i
invariant-loop-i l = (l.i ≤ l.count) × (l.at ≡ packed_at l.places l.i) × (l.from ≡ data_before l.places l.i) × (length l.out ≡ length l.initial.out)
    × (over l.out l.at (join_from (section_bytes l.places l.lent) (l.count - l.i) l.i) ≡ over l.initial.out header_size (join_from (section_bytes l.places l.lent) l.count 0))

abbrev pub decreases-loop-i : goal.decreases-loop-i
decreases-loop-i l = l.count - l.i
