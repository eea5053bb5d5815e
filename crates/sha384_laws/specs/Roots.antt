-- Where FIPS 180-4's constants come from, as the standard says it: the first sixty-four bits of the fractional parts of roots of primes.
-- Assumes nothing.
use Rattle.std.specs.Prelude.{ℕ, zero, suc, ◌+◌, ◌*◌, ◌%◌, ◌^◌, Bool, true, false, List, [], ◌∷◌, ltb, leb, eqb}
use Rattle.octets.specs.Logic.{both, either, choose}

-- whether n has a divisor from 2 up to d + 1
unfoldable pub divided_up_to : ℕ → ℕ → Bool
divided_up_to zero n = false
divided_up_to (suc d) n = either (eqb (n % (d + 2)) 0) (divided_up_to d n)

-- the primes among m numbers from d + 2 on
unfoldable pub primes_from : ℕ → ℕ → List ℕ
primes_from zero d = []
primes_from (suc m) d =
    let rest = primes_from m (d + 1) in
    choose (divided_up_to d (d + 2)) rest ((d + 2) ∷ rest)

-- whether c, below 2 ^ 64, is the first sixty-four bits of the fractional part of the k-th root of p, whose whole part is below n
unfoldable pub fraction_of_root : ℕ → ℕ → ℕ → ℕ → Bool
fraction_of_root k p c zero = false
fraction_of_root k p c (suc i) =
    let x = i * 2 ^ 64 + c in
    let power = p * (2 ^ 64) ^ k in
    either (both (leb (x ^ k) power) (ltb power ((x + 1) ^ k))) (fraction_of_root k p c i)

-- the same for a list of primes and as many words, whole parts below 32
unfoldable pub fractions_of_roots : ℕ → List ℕ → List ℕ → Bool
fractions_of_roots k [] [] = true
fractions_of_roots k [] (c ∷ cs) = false
fractions_of_roots k (p ∷ ps) [] = false
fractions_of_roots k (p ∷ ps) (c ∷ cs) =
    both (ltb c (2 ^ 64)) (both (fraction_of_root k p c 32) (fractions_of_roots k ps cs))
