-- A table of a fixed number of places, of which the first are used, and lists given by place.
-- Assumes nothing.
use Rattle.std.specs.Prelude.{ℕ, zero, suc, List, [], ◌∷◌, ◌++◌, replicate}
use Rattle.octets.specs.Lists.{in_places}
use Rattle.eif.specs.Numbers.{place_count}

-- f at the first n of m places, and d at the others
abbrev pub filled {ℓ} : {A : Type ℓ} → (ℕ → A) → A → ℕ → ℕ → List A
filled f d zero n = []
filled f d (suc m) zero = d ∷ replicate m d
filled f d (suc m) (suc n) = f 0 ∷ filled (λ k. f (suc k)) d m n

-- a list in 32 places, of which those past its end are blank
unfoldable pub in_table : {A : Type 0} → A → List A → List A
in_table blank l = in_places blank place_count l

-- the n lists from list i on, joined
unfoldable pub join_from : {A : Type 0} → (ℕ → List A) → ℕ → ℕ → List A
join_from f zero i = []
join_from f (suc n) i = f i ++ join_from f n (suc i)
