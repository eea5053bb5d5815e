use Prim.Native.Nat.{ℕ, ◌-◌, ◌≤◌}
use mathlib.Core.Path.{◌≡◌}
use mathlib.Core.List.{List}
use lib.ListN.{get_or}
use Rattle.eif.specs.Numbers.{place_count}
use Rattle.eif.specs.Table.{filled}
use Rattle.eif.specs.Reading.{blank_section}
use Rattle.eif.specs.Plan.{blank_place, place_of}
use Rattle.eif.specs.declared.Place.{Place}
use Rattle.eif.specs.declared.Section.{Section}
use Rattle.staged_view.proofs.places_of.Given as goal

abbrev pub at : List Section → ℕ → Place
at l i = place_of (get_or l i blank_section)

abbrev pub invariant-loop-i : goal.invariant-loop-i
invariant-loop-i l = (l.i ≤ place_count) × (l.places ≡ filled (at l.sections) blank_place place_count l.i)

abbrev pub decreases-loop-i : goal.decreases-loop-i
decreases-loop-i l = place_count - l.i
