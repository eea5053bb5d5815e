-- The order of the refusals of a staged view and of its roll, as lists: the base's own rules; 27 for the number of the replaced section and of
-- the one to be shown; 1 for the image written afresh; and of the roll 14. That each verdict is that of the first rule that applies:
-- `staged_laws/Order`. Assumes nothing.
use Rattle.std.specs.Prelude.{ℕ, List, [], ◌∷◌, ◌++◌, ltb, leb, length}
use Rattle.eif.specs.Numbers.{size_limit, image_too_long, no_such_section}
use Rattle.eif.specs.Layout.{count_of}
use Rattle.eif.specs.Plan.{plain_size}
use Rattle.eif.specs.Roll.{roll_bytes}
use Rattle.eif.specs.Order.{Rule, rule, image_rules, room_rule}
use Rattle.staged.specs.Staged.{staged_plan, afresh}

-- of a view with section k replaced by so many bytes, of which section j is shown
unfoldable pub staged_rules : List ℕ → ℕ → ℕ → ℕ → List Rule
staged_rules s size k j =
    image_rules s
    ++ (rule (leb (count_of s) k) no_such_section 0 0
    ∷ rule (leb (count_of s) j) no_such_section 0 0
    ∷ rule (ltb size_limit (plain_size (staged_plan s k size))) image_too_long 0 0
    ∷ [])

unfoldable pub staged_roll_rules : List ℕ → List ℕ → ℕ → ℕ → List Rule
staged_roll_rules s r k room =
    staged_rules s (length r) k k ++ (room_rule room (length (roll_bytes (afresh s r k))) ∷ [])
