-- The types of a plan's places as one list, as the code has them.
-- Assumes nothing.
use Rattle.std.specs.Prelude.{ℕ, List}
use Rattle.eif.specs.Numbers.{place_count}
use Rattle.eif.specs.Table.{filled}
use Rattle.eif.specs.Plan.{planned_kind}
use Rattle.eif.specs.declared.Place.{Place}

-- the types of all places
unfoldable pub kinds_of : List Place → List ℕ
kinds_of l = filled (planned_kind l) 0 place_count place_count
