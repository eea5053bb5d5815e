use Prim.Native.Nat.{◌-◌, ◌≤◌}
use mathlib.Core.Path.{◌≡◌}
use lib.ListN.{length}
use Rattle.eif.specs.Table.{in_table}
use Rattle.eif.specs.Numbers.{place_count}
use Rattle.eif.specs.Reading.{blank_section}
use Rattle.stream_reader.proofs.Kept.{kept_so_far, ramdisks_of}
use Rattle.stream_reader.proofs.sections.Given as goal

abbrev pub invariant-loop-i : goal.invariant-loop-i
invariant-loop-i l = (l.i ≤ place_count) × (l.count ≡ length (kept_so_far l.stream l.all l.i)) × (l.list ≡ in_table blank_section (kept_so_far l.stream l.all l.i)) × (l.before ≡ ramdisks_of l.stream l.all l.i) × (l.before ≤ l.i)

abbrev pub decreases-loop-i : goal.decreases-loop-i
decreases-loop-i l = place_count - l.i
