use Prim.Native.Nat.{suc, ◌-◌, ◌≤◌}
use mathlib.Core.Path.{◌≡◌}
use lib.ListN.{length}
use Rattle.eif.specs.Numbers.{place_count}
use Rattle.eif.specs.Table.{filled}
use Rattle.eif.specs.Roll.{record_at, record_kind, listed_at, blank_record, end_from}
use Rattle.roll_reader.proofs.walk.Given as goal

abbrev pub invariant-loop-at : goal.invariant-loop-at
invariant-loop-at l = (l.i ≤ place_count) × (l.at ≤ length l.rest) × (l.at ≡ record_at l.rest l.i)
    × (l.kinds ≡ filled (record_kind l.rest) 0 place_count l.i) × (l.records ≡ filled (listed_at l.rest) blank_record place_count l.i)
    × (end_from l.rest (suc place_count - l.i) l.i ≡ end_from l.rest (suc place_count) 0)

abbrev pub decreases-loop-at : goal.decreases-loop-at
decreases-loop-at l = suc place_count - l.i
