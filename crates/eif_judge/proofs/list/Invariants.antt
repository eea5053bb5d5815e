use Prim.Native.Nat.{◌-◌, ◌≤◌}
use mathlib.Core.Path.{◌≡◌}
use Rattle.eif.specs.Numbers.{place_count}
use Rattle.eif.specs.Table.{filled}
use Rattle.eif.specs.Reading.{section, blank_section}
use Rattle.eif_judge.specs.Kept.{view_from}
use Rattle.eif_judge.proofs.list.Given as goal

abbrev pub invariant-loop-i : goal.invariant-loop-i
invariant-loop-i l = (l.i ≤ l.count) × (l.sections ≡ filled (section (view_from l.header l.headers l.size)) blank_section place_count l.i)

abbrev pub decreases-loop-i : goal.decreases-loop-i
decreases-loop-i l = l.count - l.i
