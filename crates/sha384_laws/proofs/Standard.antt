-- The numbers of the definitions against the words of FIPS 180-4: its constants are bits of roots of primes, and its padding is the least that fits.
-- Assumes nothing.
use Prim.Native.Nat.{ℕ, ◌+◌, ◌*◌, ◌%◌, ◌≤◌}
use mathlib.Core.Path.{◌≡◌, refl}
use mathlib.Core.Bool.{true}
use native.Mathlib.Omega.{arith}
use lib.ListN.{take, drop}
use Rattle.sha384_block.specs.Fips.{round_constants, initial_hash, zeros_for}
use Rattle.sha384_laws.specs.Roots.{divided_up_to, primes_from, fraction_of_root, fractions_of_roots}

-- section 4.2.3: of the cube roots of the first eighty primes, which are those up to 409
pub constants_are_roots : fractions_of_roots 3 (primes_from 408 0) round_constants ≡ true
unfolding divided_up_to primes_from fraction_of_root fractions_of_roots round_constants
constants_are_roots = refl

-- section 5.3.4: of the square roots of the ninth to the sixteenth prime
pub initial_is_roots : fractions_of_roots 2 (take 8 (drop 8 (primes_from 408 0))) initial_hash ≡ true
unfolding divided_up_to primes_from fraction_of_root fractions_of_roots initial_hash
initial_is_roots = refl

-- section 5.1.2: after the one bit come k zero bits, the smallest solution of l + 1 + k = 896 modulo 1024 for a message of l bits; here l is
-- eight times n, and k is the last seven bits of the byte 0x80 and the zero bytes
pub zeros_fit : (n : ℕ) → (8 * n + 1 + (7 + 8 * zeros_for n)) % 1024 ≡ 896
zeros_fit n = omega arith

pub zeros_least : (n k : ℕ) → (8 * n + 1 + k) % 1024 ≡ 896 → 7 + 8 * zeros_for n ≤ k
zeros_least n k e = omega arith
