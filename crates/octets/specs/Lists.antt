-- What holds of each element of a list, what is joined or added up of each, and a list in a fixed number of places.
-- Assumes nothing.
use Rattle.std.specs.Prelude.{ℕ, ◌+◌, ◌-◌, List, [], ◌∷◌, ◌++◌, length, replicate}

unfoldable pub All {ℓ} : {A : Type ℓ} → (A → Type 0) → List A → Type 0
All P [] = Unit
All P (x ∷ xs) = P x × All P xs

-- what a function gives of each element, joined
abbrev pub joined_by : {A : Type 0} → (A → List ℕ) → List A → List ℕ
joined_by f [] = []
joined_by f (x ∷ xs) = f x ++ joined_by f xs

-- a list in n places, of which those past its end have d
abbrev pub in_places : {A : Type 0} → A → ℕ → List A → List A
in_places d n l = l ++ replicate (n - length l) d

-- a number of each element, added up
abbrev pub sum_by : {A : Type 0} → (A → ℕ) → List A → ℕ
sum_by f [] = 0
sum_by f (x ∷ xs) = f x + sum_by f xs

abbrev pub joined : List (List ℕ) → List ℕ
joined l = joined_by (λ x. x) l
