-- Choice and majority with fewer operations than the standard writes.
use Rattle.std.proofs.Common.{◌≡◌, ℕ, zero, suc, ◌+◌, ◌-◌, ◌*◌, ◌/◌, ◌%◌, ◌^◌, ◌<◌, min, sym, refl, ap, ◌∙◌, ap₂, mod-eq_of_lt, arith}
use lib.Arith.{bin_ind, digits_mod}
use lib.Bits.{bit_and, bit_xor, differ, and_step, xor_step, and_shr, and_comm, and_self, and_mask, xor_comm, xor_self, xor_add_and}
use Rattle.crc32.proofs.Xor.{xor_assoc, xor_half, xor_odd, bit_lt, too_big}
use Rattle.sha384_block.specs.Fips.{complement}

min_lt : (x y : ℕ) → x < 2 → y < 2 → min x y < 2
min_lt zero y h g = omega arith
min_lt (suc x) zero h g = omega arith
min_lt (suc zero) (suc zero) h g = omega arith
min_lt (suc zero) (suc (suc y)) h g = absurd (too_big g)
min_lt (suc (suc x)) (suc y) h g = absurd (too_big h)

min_differ : (x y z : ℕ) → x < 2 → y < 2 → z < 2 → min x (differ y z) ≡ differ (min x y) (min x z)
min_differ zero zero zero a b c = refl
min_differ zero zero (suc zero) a b c = refl
min_differ zero (suc zero) zero a b c = refl
min_differ zero (suc zero) (suc zero) a b c = refl
min_differ (suc zero) zero zero a b c = refl
min_differ (suc zero) zero (suc zero) a b c = refl
min_differ (suc zero) (suc zero) zero a b c = refl
min_differ (suc zero) (suc zero) (suc zero) a b c = refl
min_differ (suc (suc x)) y z a b c = absurd (too_big a)
min_differ zero (suc (suc y)) z a b c = absurd (too_big b)
min_differ (suc zero) (suc (suc y)) z a b c = absurd (too_big b)
min_differ zero zero (suc (suc z)) a b c = absurd (too_big c)
min_differ zero (suc zero) (suc (suc z)) a b c = absurd (too_big c)
min_differ (suc zero) zero (suc (suc z)) a b c = absurd (too_big c)
min_differ (suc zero) (suc zero) (suc (suc z)) a b c = absurd (too_big c)

and_half : (a b : ℕ) → bit_and a b / 2 ≡ bit_and (a / 2) (b / 2)
and_half a b = and_shr a b 1

and_odd : (a b : ℕ) → bit_and a b % 2 ≡ min (a % 2) (b % 2)
and_odd a b =
    ap (λ (x : ℕ). x % 2) (and_step a b)
    ∙ digits_mod (bit_and (a / 2) (b / 2)) {m = 2} (min_lt (a % 2) (b % 2) (bit_lt a) (bit_lt b))

pub and_xor : (a b c : ℕ) → bit_and a (bit_xor b c) ≡ bit_xor (bit_and a b) (bit_and a c)
and_xor = bin_ind (λ (n : ℕ). (b c : ℕ) → bit_and n (bit_xor b c) ≡ bit_xor (bit_and n b) (bit_and n c)) (λ b c. refl) step
  where
    step : (n : ℕ) → ((b c : ℕ) → bit_and (n / 2) (bit_xor b c) ≡ bit_xor (bit_and (n / 2) b) (bit_and (n / 2) c)) → (b c : ℕ) → bit_and n (bit_xor b c) ≡ bit_xor (bit_and n b) (bit_and n c)
    step n ih b c =
        and_step n (bit_xor b c)
        ∙ ap₂ (λ (x y : ℕ). bit_and (n / 2) x * 2 + min (n % 2) y) (xor_half b c) (xor_odd b c)
        ∙ ap₂ (λ (x y : ℕ). x * 2 + y) (ih (b / 2) (c / 2)) (min_differ (n % 2) (b % 2) (c % 2) (bit_lt n) (bit_lt b) (bit_lt c))
        ∙ sym (ap₂ (λ (x y : ℕ). x * 2 + y) (ap₂ bit_xor (and_half n b) (and_half n c)) (ap₂ differ (and_odd n b) (and_odd n c)))
        ∙ sym (xor_step (bit_and n b) (bit_and n c))

xor_and : (a b c : ℕ) → bit_and (bit_xor a b) c ≡ bit_xor (bit_and a c) (bit_and b c)
xor_and a b c = and_comm (bit_xor a b) c ∙ and_xor c a b ∙ ap₂ bit_xor (and_comm c a) (and_comm c b)

-- an exclusive or with the same number twice changes nothing
gone : (a b : ℕ) → bit_xor a (bit_xor a b) ≡ b
gone a b = sym (xor_assoc a a b) ∙ ap (λ (x : ℕ). bit_xor x b) (xor_self a)

pub majority_is : (x y z : ℕ) → bit_xor y (bit_and (bit_xor x y) (bit_xor y z)) ≡ bit_xor (bit_xor (bit_and x y) (bit_and x z)) (bit_and y z)
majority_is x y z =
    ap (bit_xor y)
    (and_xor (bit_xor x y) y z
    ∙ ap₂ bit_xor (xor_and x y y ∙ ap (bit_xor (bit_and x y)) (and_self y) ∙ xor_comm (bit_and x y) y) (xor_and x y z)
    ∙ xor_assoc y (bit_and x y) (bit_xor (bit_and x z) (bit_and y z)))
    ∙ gone y (bit_xor (bit_and x y) (bit_xor (bit_and x z) (bit_and y z)))
    ∙ sym (xor_assoc (bit_and x y) (bit_and x z) (bit_and y z))

complement_is : (x : ℕ) → x < 2 ^ 64 → complement x ≡ bit_xor x (2 ^ 64 - 1)
complement_is x h =
    let m : bit_and x (2 ^ 64 - 1) ≡ x = and_mask x 64 ∙ mod-eq_of_lt h in
    omega (arith, m, xor_add_and x (2 ^ 64 - 1))

pub choice_is : (x y z : ℕ) → x < 2 ^ 64 → z < 2 ^ 64 → bit_xor z (bit_and x (bit_xor y z)) ≡ bit_xor (bit_and x y) (bit_and (complement x) z)
choice_is x y z h g =
    let ones : bit_and (2 ^ 64 - 1) z ≡ z = and_comm (2 ^ 64 - 1) z ∙ and_mask z 64 ∙ mod-eq_of_lt g in
    let other : bit_and (complement x) z ≡ bit_xor (bit_and x z) z =
    ap (λ (w : ℕ). bit_and w z) (complement_is x h) ∙ xor_and x (2 ^ 64 - 1) z ∙ ap (bit_xor (bit_and x z)) ones in
    ap (bit_xor z) (and_xor x y z)
    ∙ xor_comm z (bit_xor (bit_and x y) (bit_and x z))
    ∙ xor_assoc (bit_and x y) (bit_and x z) z
    ∙ ap (bit_xor (bit_and x y)) (sym other)
