-- Each byte has one of forty classes. Assumes nothing.
use Prim.Native.Nat.{ℕ, zero, suc, ◌<◌}
use mathlib.Core.Path.{◌≡◌, refl}
use mathlib.Core.Bool.{Bool, true}
use mathlib.Core.List.{List, [], ◌∷◌}
use native.Mathlib.Omega.{arith}
use borrow.Author.Tests.{ltb-true}
use lib.Dec.{ltb}
use lib.ListN.{get_or}
use Rattle.octets.proofs.Logic.{both_true}
use Rattle.json_machine.specs.Table.{classes}
use Rattle.json_machine.specs.Machine.{class_count}
use Rattle.octets.specs.Logic.{both}

abbrev below : List ℕ → ℕ → Bool
below [] n = true
below (x ∷ l) n = both (ltb x n) (below l n)

get_d_below : (l : List ℕ) (n i : ℕ) → below l n ≡ true → 0 < n → get_or l i 0 < n
get_d_below [] n i e z = z
get_d_below (x ∷ l) n zero e z = ltb-true _ _ (both_true (ltb x n) (below l n) e).0
get_d_below (x ∷ l) n (suc i) e z = get_d_below l n i (both_true (ltb x n) (below l n) e).1 z

pub class_below : (b : ℕ) → get_or classes b 0 < class_count
unfolding classes
class_below b = get_d_below classes class_count b refl (omega arith)
