use Prim.Native.Nat.{◌-◌, ◌≤◌}
use mathlib.Core.Path.{◌≡◌}
use Rattle.eif.specs.Numbers.{place_count}
use Rattle.eif.specs.Rules.{order_fault, first_fault}
use Rattle.eif.specs.Table.{filled}
use Rattle.eif.specs.Layout.{start}
use Rattle.eif.specs.Reading.{section_fault}
use Rattle.eif_judge.specs.Kept.{view_from}
use Rattle.eif_judge.proofs.walk.Given as goal

abbrev pub invariant-loop-j : goal.invariant-loop-j
invariant-loop-j l = (l.j ≤ l.i) × (order_fault (view_from l.header l.headers l.size).kind l.kind l.j ≡ order_fault (view_from l.header l.headers l.size).kind l.kind l.i)

abbrev pub invariant-sections : goal.invariant-sections
invariant-sections l = (l.i ≤ l.count) × (l.begin ≡ start (view_from l.header l.headers l.size) l.i) × (l.kinds ≡ filled (view_from l.header l.headers l.size).kind 0 place_count l.i)
    × (first_fault (section_fault (view_from l.header l.headers l.size)) (l.count - l.i) l.i ≡ first_fault (section_fault (view_from l.header l.headers l.size)) l.count 0)

abbrev pub decreases-loop-j : goal.decreases-loop-j
decreases-loop-j l = l.j

abbrev pub decreases-sections : goal.decreases-sections
decreases-sections l = l.count - l.i
