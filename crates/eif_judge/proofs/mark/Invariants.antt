use Prim.Native.Nat.{◌-◌, ◌^◌, ◌<◌, ◌≤◌}
use mathlib.Core.Path.{◌≡◌}
use lib.ListN.{drop}
use Rattle.eif.specs.Numbers.{place_count}
use Rattle.eif.specs.Reading.{mark_of}
use Rattle.eif_judge.proofs.mark.Given as goal

abbrev pub invariant-loop-j : goal.invariant-loop-j
invariant-loop-j l = (l.j ≤ place_count) × (l.m < 2 ^ (place_count - l.j)) × (l.m ≡ mark_of (drop l.j l.sections))

abbrev pub decreases-loop-j : goal.decreases-loop-j
decreases-loop-j l = l.j
