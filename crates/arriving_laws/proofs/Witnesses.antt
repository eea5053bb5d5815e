-- Turns that `CanTake` holds of, turns that it rejects, and what they leave of a file of three bytes, by computation.
use Prim.Native.Nat.{ℕ}
use mathlib.Core.Path.{◌≡◌, refl}
use mathlib.Core.List.{List, [], ◌∷◌}
use native.Mathlib.Omega.{arith}
use lib.Dec.{lit<}
use Rattle.octets.specs.Lists.{All}
use Rattle.arriving.specs.State.{kept_of, state_of}
use Rattle.arriving.specs.Calls.{grown, fed}
use Rattle.arriving_laws.specs.Runs.{Turn, CanTake, unsent, turns}

abbrev turn_of : ℕ → ℕ → Turn
turn_of size allowance = record { size = size; allowance = allowance }

-- three turns: two bytes of which one is allowed, one byte with more allowed, and more bytes than are left
abbrev three_turns : List Turn
three_turns = turn_of 2 1 ∷ turn_of 1 5 ∷ turn_of 9 9 ∷ []

turns_able : CanTake three_turns
unfolding All
turns_able = ((lit< tt, lit< tt), ((lit< tt, lit< tt), ((lit< tt, lit< tt), tt)))

-- rejected: a turn of no bytes, and one that allows none
turns_reject : (CanTake (turn_of 2 1 ∷ turn_of 0 5 ∷ turn_of 9 9 ∷ []) → ⊥) × (CanTake (turn_of 2 1 ∷ turn_of 1 5 ∷ turn_of 9 0 ∷ []) → ⊥)
unfolding All
turns_reject = (λ c. let h = c.1.0.0 in omega arith, λ c. let h = c.1.1.0.1 in omega arith)

-- the file has ended after the three; with the others a byte is left
file_left :
    (turns (unsent (7 ∷ 8 ∷ 9 ∷ [])) three_turns).left ∷ (turns (unsent (7 ∷ 8 ∷ 9 ∷ [])) (turn_of 2 1 ∷ turn_of 0 5 ∷ turn_of 1 9 ∷ [])).left
    ∷ (turns (unsent (7 ∷ 8 ∷ 9 ∷ [])) (turn_of 2 1 ∷ turn_of 1 5 ∷ turn_of 9 0 ∷ [])).left ∷ []
    ≡ [] ∷ (9 ∷ []) ∷ (9 ∷ []) ∷ []
unfolding turns fed grown state_of kept_of
file_left = refl
