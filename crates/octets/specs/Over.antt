-- Writing over a part of a list.
-- Assumes nothing.
use Rattle.std.specs.Prelude.{ℕ, ◌+◌, List, [], ◌∷◌, set}

-- the list d with bs over what stands from a position on; what would lie past d's end is left out, so the length stays
unfoldable pub over : List ℕ → ℕ → List ℕ → List ℕ
over d at [] = d
over d at (b ∷ bs) = over (set d at b) (at + 1) bs
