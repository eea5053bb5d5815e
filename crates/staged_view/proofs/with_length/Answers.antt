use mathlib.Core.Path.{◌≡◌, sym}
use native.Mathlib.Omega.{arith}
use borrow.Author.Rules.{rules}
use lib.ListN.{length}
use lib.Seq.{set_out}
use Rattle.eif.specs.Numbers.{place_count}
use Rattle.eif.specs.Plan.{place_at}
use Rattle.staged.specs.Staged.{with_length}
use Rattle.staged_view.proofs.with_length.Goals as goal

-- `staged_view::with_length` meets its contract: past the places nothing is set.
pub returns-then-replaced : goal.returns-then-replaced
returns-then-replaced c = let a = c.args in
    let size : length a.places ≡ place_count = search rules in
    sym (set_out a.places a.replaced (with_length (place_at a.places a.replaced) a.size) (omega arith))
