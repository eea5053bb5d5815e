-- A word taken away, and added to what comes after it at the places that a sparse multiple of the polynomial names, leaves the remainder.
-- A multiple is computed for bits; squaring it gives it for bytes and words.
-- Assumes nothing.
use Prim.Native.Nat.{ℕ, zero, suc, ◌+◌, ◌-◌, ◌*◌, ◌/◌, ◌%◌, ◌^◌, ◌<◌, ◌≤◌}
use mathlib.Core.Path.{◌≡◌, refl, sym, ap, ap₂, ◌∙◌}
use mathlib.Core.List.{List, [], ◌∷◌}
use native.Mathlib.Omega.{arith}
use native.Mathlib.Nat.{add_comm, mul_assoc}
use lib.Arith.{lt-one}
use lib.Dec.{lit≤}
use lib.Pow.{shl-shr, shr-shr, pow-add}
use lib.Bits.{bit_xor, xor_shr, xor_self, xor_zero_l}
use Rattle.octets.specs.Lists.{All}
use Rattle.crc32.specs.Crc.{poly, shift_bit, shift_bits}
use Rattle.crc32_lemmas.specs.Fold.{down, up, taps, mix, spread, sparse, sparser, past_word, ring_size, window_size}
use Rattle.crc32_lemmas.specs.Sizes.{window_last, ring_last}
use Rattle.crc32.proofs.Xor.{xor_assoc, xor_swap, bit_lt, too_big}
use Rattle.crc32.proofs.Linear.{shift_bits_linear, shift_bits_high, shift_bits_add}

-- ---- maps that keep exclusive or, and that commute with another
abbrev pub Add : (ℕ → ℕ) → Type 0
Add f = (a b : ℕ) → f (bit_xor a b) ≡ bit_xor (f a) (f b)

abbrev Lin : (ℕ → ℕ) → (ℕ → ℕ) → Type 0
Lin g f = Add f × ((x : ℕ) → f (g x) ≡ g (f x))

lin_taps : (g : ℕ → ℕ) → Add g → (f : ℕ → ℕ → ℕ) → ((k : ℕ) → Lin g (f k)) → (ks : List ℕ) → Lin g (taps f ks)
unfolding taps
lin_taps g ag f h [] = ((λ a b. refl), (λ x. refl))
lin_taps g ag f h (k ∷ ks) =
    let p = lin_taps g ag f h ks in
    let q = h k in (
      (λ a b. ap₂ bit_xor (p.0 a b) (q.0 a b) ∙ xor_swap (taps f ks a) (taps f ks b) (f k a) (f k b)),
      (λ x. ap₂ bit_xor (p.1 x) (q.1 x) ∙ sym (ag (taps f ks x) (f k x))),
    )

pub add_taps : (f : ℕ → ℕ → ℕ) → ((k : ℕ) → Add (f k)) → (ks : List ℕ) → Add (taps f ks)
add_taps f h ks = (lin_taps (λ (x : ℕ). x) (λ a b. refl) f (λ k. (h k, λ x. refl)) ks).0

pub zero_of : (f : ℕ → ℕ) → Add f → f 0 ≡ 0
zero_of f a = a 0 0 ∙ xor_self (f 0)

-- ---- places of m bits, as steps
shift_bits_comm : (j k c : ℕ) → shift_bits j (shift_bits k c) ≡ shift_bits k (shift_bits j c)
shift_bits_comm j k c = shift_bits_add k j c ∙ ap (λ (n : ℕ). shift_bits n c) (add_comm k j) ∙ sym (shift_bits_add j k c)

lin_shift : (m k : ℕ) → Lin (shift_bits m) (shift_bits k)
lin_shift m k = (shift_bits_linear k, shift_bits_comm k m)

abbrev places : ℕ → ℕ → ℕ → ℕ
places m k = shift_bits (m * k)

lin_places : (n m : ℕ) (ks : List ℕ) → Lin (shift_bits n) (taps (places m) ks)
lin_places n m ks = lin_taps (shift_bits n) (shift_bits_linear n) (places m) (λ k. lin_shift n (m * k)) ks

-- at places of m bits, the polynomial divides the multiple of degree d with the powers ks
abbrev Multiple : List ℕ → ℕ → ℕ → Type 0
Multiple ks d m = shift_bits (m * d) poly ≡ taps (places m) ks poly

sparse_multiple : Multiple sparse window_size 1
unfolding taps shift_bits shift_bit
sparse_multiple = refl

sparser_multiple : Multiple sparser ring_size 1
unfolding taps shift_bits shift_bit
sparser_multiple = refl

twice : (m k x : ℕ) → shift_bits (m * k) (shift_bits (m * k) x) ≡ shift_bits ((m + m) * k) x
twice m k x = let e : m * k + m * k ≡ (m + m) * k = omega arith in shift_bits_add (m * k) (m * k) x ∙ ap (λ (n : ℕ). shift_bits n x) e

cancel : (p q r : ℕ) → bit_xor (bit_xor p q) (bit_xor q r) ≡ bit_xor p r
cancel p q r =
    xor_assoc p q (bit_xor q r) ∙ ap (bit_xor p) (sym (xor_assoc q q r) ∙ ap (λ (z : ℕ). bit_xor z r) (xor_self q) ∙ xor_zero_l r)

-- (a + b)^2 = a^2 + b^2
square : (m : ℕ) (ks : List ℕ) (x : ℕ) → taps (places m) ks (taps (places m) ks x) ≡ taps (places (m + m)) ks x
unfolding taps
square m [] x = refl
square m (k ∷ ks) x =
    let f : ℕ → ℕ = taps (places m) ks in
    let p = lin_places (m * k) m ks in
    ap₂ bit_xor (p.0 (f x) (shift_bits (m * k) x)) (shift_bits_linear (m * k) (f x) (shift_bits (m * k) x))
    ∙ ap (λ (y : ℕ). bit_xor (bit_xor (f (f x)) y) (bit_xor (shift_bits (m * k) (f x)) (shift_bits (m * k) (shift_bits (m * k) x)))) (p.1 x)
    ∙ cancel (f (f x)) (shift_bits (m * k) (f x)) (shift_bits (m * k) (shift_bits (m * k) x))
    ∙ ap₂ bit_xor (square m ks x) (twice m k x)

double : (ks : List ℕ) (d m : ℕ) → Multiple ks d m → Multiple ks d (m + m)
double ks d m e =
    let p = lin_places (m * d) m ks in
    sym (twice m d poly) ∙ ap (shift_bits (m * d)) e ∙ sym (p.1 poly) ∙ ap (taps (places m) ks) e ∙ square m ks poly

to_8 : (ks : List ℕ) (d : ℕ) → Multiple ks d 1 → Multiple ks d 8
to_8 ks d e = double ks d 4 (double ks d 2 (double ks d 1 e))

-- two such maps that agree at the polynomial agree at whatever m steps make of m bits
module _ (f h : ℕ → ℕ) (lf : (m : ℕ) → Lin (shift_bits m) f) (lh : (m : ℕ) → Lin (shift_bits m) h) (e : f poly ≡ h poly) where
  at_poly : (m x : ℕ) → x < 2 → f (shift_bits m (x * poly)) ≡ h (shift_bits m (x * poly))
  at_poly m zero l = (lf m).1 0 ∙ ap (shift_bits m) (zero_of f (lf m).0 ∙ sym (zero_of h (lh m).0)) ∙ sym ((lh m).1 0)
  at_poly m (suc zero) l = (lf m).1 poly ∙ ap (shift_bits m) e ∙ sym ((lh m).1 poly)
  at_poly m (suc (suc x)) l = absurd (too_big l)

  agree : (m u : ℕ) → u < 2 ^ m → f (shift_bits m u) ≡ h (shift_bits m u)
  unfolding shift_bits shift_bit
  agree zero u l = rw (lt-one l) (zero_of f (lf 0).0 ∙ sym (zero_of h (lh 0).0))
  agree (suc m) u l =
      let b : ℕ = u % 2 * poly in
      let half : u / 2 < 2 ^ m = omega arith in
      ap f (shift_bits_linear m (u / 2) b) ∙ (lf m).0 (shift_bits m (u / 2)) (shift_bits m b)
      ∙ ap₂ bit_xor (agree m (u / 2) half) (at_poly m (u % 2) (bit_lt u))
      ∙ sym (ap h (shift_bits_linear m (u / 2) b) ∙ (lh m).0 (shift_bits m (u / 2)) (shift_bits m b))

-- ---- places of m bits, as shifts
pub down_add : (k : ℕ) → Add (down k)
unfolding down
down_add k a b = xor_shr a b k

down_comm : (j k x : ℕ) → down j (down k x) ≡ down k (down j x)
unfolding down
down_comm j k x = shr-shr x k j ∙ ap (λ (n : ℕ). x / 2 ^ n) (add_comm k j) ∙ sym (shr-shr x j k)

lin_mix : (ks : List ℕ) (m b : ℕ) → Lin (down b) (mix ks m)
unfolding mix
lin_mix ks m b = lin_taps (down b) (down_add b) (λ (k : ℕ). down (m * k)) (λ k. (down_add (m * k), down_comm (m * k) b)) ks

pub mix_down : (ks : List ℕ) (m b x : ℕ) → mix ks m (down b x) ≡ down b (mix ks m x)
mix_down ks m b = (lin_mix ks m b).1

pub mix_xor : (ks : List ℕ) (m : ℕ) → Add (mix ks m)
mix_xor ks m = (lin_mix ks m 0).0

pub mix_zero : (ks : List ℕ) (m : ℕ) → mix ks m 0 ≡ 0
mix_zero ks m = zero_of (mix ks m) (mix_xor ks m)

pub down_up : (j k u : ℕ) → down j (up (k + j) u) ≡ up k u
unfolding down up
down_up j k u = ap (λ (n : ℕ). n / 2 ^ j) (ap (λ (n : ℕ). u * n) (pow-add 2 k j) ∙ sym (mul_assoc u (2 ^ k) (2 ^ j))) ∙ shl-shr (u * 2 ^ k) j

come_down : (j k u : ℕ) → shift_bits (j + k) (up j u) ≡ shift_bits k u
unfolding up
come_down j k u = sym (shift_bits_add j k (u * 2 ^ j)) ∙ ap (shift_bits k) (shift_bits_high j u)

-- ---- a word of b bits with e bits after it, and places of m bits
abbrev Below : ℕ → ℕ → List ℕ → Type 0
Below m e ks = All (λ (k : ℕ). m * k ≤ e) ks

module _ (m b e u : ℕ) where
  top : (ks : List ℕ) → Below m e ks → shift_bits (e + b) (taps (λ (k : ℕ). down (m * k)) ks (up e u)) ≡ taps (places m) ks (shift_bits b u)
  unfolding All taps
  top [] w = come_down e b u
  top (k ∷ ks) w =
      let l = w.0 in
      let j : ℕ = e - m * k in
      let p : e ≡ j + m * k = omega arith in
      let q : e + b ≡ j + (b + m * k) = omega arith in
      shift_bits_linear (e + b) (taps (λ (i : ℕ). down (m * i)) ks (up e u)) (down (m * k) (up e u))
      ∙ ap₂ bit_xor (top ks w.1)
      (ap₂ (λ (n i : ℕ). shift_bits n (down (m * k) (up i u))) q p
      ∙ ap (shift_bits (j + (b + m * k))) (down_up (m * k) j u)
      ∙ come_down j (b + m * k) u
      ∙ sym (shift_bits_add b (m * k) u))

-- the places fit, and the polynomial divides
abbrev pub Spreads : List ℕ → ℕ → ℕ → ℕ → Type 0
Spreads ks m b e = Below m e ks × (shift_bits (e + b) poly ≡ taps (places m) ks poly)

pub bits_spread : Spreads sparse 1 64 past_word
unfolding All
bits_spread = ((lit≤ tt, (lit≤ tt, (lit≤ tt, tt))), sparse_multiple)

pub bytes_spread : Spreads sparse 8 8 (8 * window_last)
unfolding All
bytes_spread = ((lit≤ tt, (lit≤ tt, (lit≤ tt, tt))), to_8 sparse window_size sparse_multiple)

pub ring_spread : Spreads sparser 32 32 (32 * ring_last)
unfolding All
ring_spread = ((lit≤ tt, (lit≤ tt, tt)), double sparser ring_size 16 (double sparser ring_size 8 (to_8 sparser ring_size sparser_multiple)))

pub spread_steps : (ks : List ℕ) (m b e : ℕ) → Spreads ks m b e → (u : ℕ) → u < 2 ^ b → shift_bits (e + b) (shift_bits b u) ≡ shift_bits (e + b) (spread ks m e u)
unfolding spread mix
spread_steps ks m b e h u l =
    agree (shift_bits (e + b)) (taps (places m) ks) (λ n. lin_shift n (e + b)) (λ n. lin_places n m ks) h.1 b u l
    ∙ sym (top m b e u ks h.0)
