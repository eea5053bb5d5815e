-- Words and bytes folded: a window of those taken away last, one further, moved, and at the start.
-- Assumes nothing.
use Prim.Native.Nat.{ℕ, zero, suc, ◌+◌, ◌-◌, ◌*◌, ◌%◌, ◌^◌, ◌<◌, ◌≤◌}
use mathlib.Core.Path.{◌≡◌, refl, sym, ap, ap₂, ◌∙◌}
use mathlib.Core.List.{List, [], ◌∷◌}
use native.Mathlib.Omega.{arith}
use native.Mathlib.Nat.{add_comm, zero-add, add-zero, div-eq_of_lt, lt_of_lt_of_le}
use borrow.Author.Count.{below_more}
use lib.Dec.{lit≤}
use lib.Pow.{pow_mono, pow_pos}
use lib.ListN.{length, get_or, set, length-set, replicate, length-replicate}
use lib.Seq.{get_or-set_same, get_or-set_other}
use lib.Bits.{bit_xor, xor_mod, xor_zero_r}
use Rattle.crc32_lemmas.specs.Sizes.{buffer_size, window_last}
use Rattle.octets.specs.Lists.{All}
use Rattle.crc32_lemmas.specs.Fold.{down, up, mix, spread, taps, num, num_from, window, remainder_from, lowest, added, sparse, Words, window_size}
use Rattle.crc32_lemmas.proofs.Sparse.{Spreads, down_add, mix_down, mix_xor, bytes_spread}
use Rattle.crc32_lemmas.proofs.Remainder.{At, remainder_fold}
use Rattle.crc32_lemmas.proofs.Joined.{up_zero, down_places, num_ext, num_zero, num_down, num_low, num_top, num_drop}

abbrev Within : ℕ → List ℕ → Type 0
Within n ks = All (λ (k : ℕ). k ≤ n) ks

-- g is f a word further, with u after it
abbrev pub Pushed : ℕ → (ℕ → ℕ) → (ℕ → ℕ) → ℕ → ℕ → Type 0
Pushed n f g j u = ((k : ℕ) → k < n → g (j + 1 + k) ≡ f (j + suc k)) × (g (j + 1 + n) ≡ u)

-- ---- a window of n words of b bits and one more, from j on
module _ (b n : ℕ) (f : ℕ → ℕ) (j : ℕ) (h : (k : ℕ) → f k < 2 ^ b) where
  lowest_of : (ks : List ℕ) → Within n ks → taps (λ (k : ℕ). down (b * k)) ks (num_from b (suc n) f j) % 2 ^ b ≡ lowest ks f j
  unfolding All taps num_from
  lowest_of [] w = num_low b n (λ (k : ℕ). f (j + k)) (h (j + 0)) ∙ ap f (add-zero j)
  lowest_of (k ∷ ks) w =
      let g : ℕ → ℕ = λ (i : ℕ). f (j + i) in
      let x : ℕ = num b (suc n) g in
      let l = w.0 in
      let e : suc n ≡ k + suc (n - k) = omega arith in
      let d : down (b * k) x ≡ num b (suc (n - k)) (λ (i : ℕ). g (k + i)) =
      ap (λ (m : ℕ). down (b * k) (num b m g)) e ∙ num_drop b k (suc (n - k)) g (λ i. h (j + i)) in
      xor_mod (taps (λ (i : ℕ). down (b * i)) ks x) (down (b * k) x) b
      ∙ ap₂ bit_xor (lowest_of ks w.1) (ap (λ (y : ℕ). y % 2 ^ b) d ∙ num_low b (n - k) (λ (i : ℕ). g (k + i)) (h (j + (k + 0))) ∙ ap g (add-zero k))

  mix_low : (ks : List ℕ) → Within n ks → mix ks b (num_from b (suc n) f j) % 2 ^ b ≡ lowest ks f j
  unfolding mix
  mix_low = lowest_of

  pushed : (g : ℕ → ℕ) (u : ℕ) → Pushed n f g j u → num_from b (suc n) g (j + 1) ≡ bit_xor (down b (num_from b (suc n) f j)) (up (b * n) u)
  unfolding num_from
  pushed g u p =
      let f' : ℕ → ℕ = λ (k : ℕ). f (j + k) in
      let g' : ℕ → ℕ = λ (k : ℕ). g (j + 1 + k) in
      num_top b n g'
      ∙ ap₂ (λ (x y : ℕ). bit_xor x (up (b * n) y)) (num_ext b n g' (λ (k : ℕ). f' (suc k)) p.0 ∙ sym (num_down b n f' (h (j + 0)))) p.1

-- with a word of b bytes taken away, by the powers ks of a multiple
module _ (ks : List ℕ) (b n : ℕ) (q : Within n ks) (e : Spreads ks (8 * b) (8 * b) (8 * b * n)) (f : ℕ → ℕ) (j : ℕ) (h : (k : ℕ) → f k < 2 ^ (8 * b)) where
  pub mix_turn : (s : List ℕ) (i w : ℕ) → At s i b w → 8 * b * n + 8 * b ≤ 8 * (length s - (i + b))
      → (g : ℕ → ℕ) → Pushed n f g j (bit_xor (lowest ks f j) w)
      → remainder_from s i (mix ks (8 * b) (num_from (8 * b) (suc n) f j)) ≡ remainder_from s (i + b) (mix ks (8 * b) (num_from (8 * b) (suc n) g (j + 1)))
  unfolding spread
  mix_turn s i w a l g p =
      let c : ℕ = 8 * b in
      let x : ℕ = num_from c (suc n) f j in
      let u : ℕ = bit_xor (lowest ks f j) w in
      remainder_fold ks c b (c * n) e s i w (mix ks c x) a l
      ∙ ap₂ (λ (y z : ℕ). remainder_from s (i + b) (bit_xor y (mix ks c (up (c * n) (bit_xor z w))))) (sym (mix_down ks c c x)) (mix_low c n f j h ks q)
      ∙ ap (remainder_from s (i + b)) (sym (mix_xor ks c (down c x) (up (c * n) u)) ∙ ap (mix ks c) (sym (pushed c n f j h g u p)))

-- ---- the window of 300 bytes in v
abbrev bytes : List ℕ → ℕ → ℕ
bytes v k = get_or v k 0

module _ (v : List ℕ) (j : ℕ) (h : (k : ℕ) → get_or v k 0 < 2 ^ 8) (l : j + window_size < length v) where
  window_push : (u : ℕ) → Pushed window_last (bytes v) (bytes (set v (j + window_size) u)) j u
  window_push u =
      let e : j + 1 + window_last ≡ j + window_size = omega arith in (
        (λ k m.
            let o : j + 1 + k ≡ j + suc k = omega arith in
            get_or-set_other v (j + window_size) (j + 1 + k) u 0 (λ q. omega arith) ∙ ap (bytes v) o),
        ap (bytes (set v (j + window_size) u)) e ∙ get_or-set_same v (j + window_size) u 0 l,
      )

  pub bytes_turn : (s : List ℕ) (i w : ℕ) → At s i 1 w → i + 1 + window_size ≤ length s
      → remainder_from s i (mix sparse 8 (window v j)) ≡ remainder_from s (i + 1) (mix sparse 8 (window (set v (j + window_size) (bit_xor (added v j) w)) (j + 1)))
  unfolding All
  bytes_turn s i w a b =
      let u : ℕ = bit_xor (added v j) w in
      mix_turn sparse 1 window_last (lit≤ tt, (lit≤ tt, (lit≤ tt, tt))) bytes_spread (bytes v) j h s i w a (omega arith) (bytes (set v (j + window_size) u)) (window_push u)

-- ---- the window moved to the front
module _ (v₀ v : List ℕ) (n j : ℕ) (h : Words 8 buffer_size v) (p : (k : ℕ) → k < j → get_or v k 0 ≡ get_or v₀ (n + k) 0) (q : (k : ℕ) → j ≤ k → get_or v k 0 ≡ get_or v₀ k 0) (l : j < buffer_size) where
  pub moves : (k : ℕ) → k < j + 1 → get_or (set v j (get_or v (j + n) 0)) k 0 ≡ get_or v₀ (n + k) 0
  moves =
      below_more (λ (k : ℕ). get_or (set v j (get_or v (j + n) 0)) k 0 ≡ get_or v₀ (n + k) 0) j
      (λ k m. get_or-set_other v j k (get_or v (j + n) 0) 0 (λ e. omega arith) ∙ p k m)
      (get_or-set_same v j (get_or v (j + n) 0) 0 (omega arith) ∙ q (j + n) (omega arith) ∙ ap (λ (i : ℕ). get_or v₀ i 0) (add_comm j n))

  pub stayed : (k : ℕ) → j + 1 ≤ k → get_or (set v j (get_or v (j + n) 0)) k 0 ≡ get_or v₀ k 0
  stayed k m = get_or-set_other v j k (get_or v (j + n) 0) 0 (λ e. omega arith) ∙ q k (omega arith)

pub window_moved : (v₀ v : List ℕ) (n : ℕ) → ((k : ℕ) → k < window_size → get_or v k 0 ≡ get_or v₀ (n + k) 0) → window v 0 ≡ window v₀ n
unfolding num_from
window_moved v₀ v n p =
    num_ext 8 window_size (λ (k : ℕ). get_or v (0 + k) 0) (λ (k : ℕ). get_or v₀ (n + k) 0) (λ k m. ap (λ (i : ℕ). get_or v i 0) (zero-add k) ∙ p k m)

-- ---- the buffer
set_lt : (b : ℕ) (v : List ℕ) (i u k : ℕ) → u < 2 ^ b → ((m : ℕ) → get_or v m 0 < 2 ^ b) → get_or (set v i u) k 0 < 2 ^ b
set_lt b [] i u k l h = pow_pos b
set_lt b (x ∷ v) zero u zero l h = l
set_lt b (x ∷ v) zero u (suc k) l h = h (suc k)
set_lt b (x ∷ v) (suc i) u zero l h = h 0
set_lt b (x ∷ v) (suc i) u (suc k) l h = set_lt b v i u k l (λ m. h (suc m))

pub words_set : (b n : ℕ) (v : List ℕ) (i u : ℕ) → u < 2 ^ b → Words b n v → Words b n (set v i u)
words_set b n v i u l h = (length-set v i u ∙ h.0, λ k. set_lt b v i u k l h.1)

-- ---- nothing but a first number
abbrev pub noughts : ℕ → List ℕ
noughts n = replicate n 0

pub zeros : (n k : ℕ) → get_or (noughts n) k 0 ≡ 0
zeros zero k = refl
zeros (suc n) zero = refl
zeros (suc n) (suc k) = zeros n k

cons_lt : (b x : ℕ) (v : List ℕ) (k : ℕ) → x < 2 ^ b → ((m : ℕ) → get_or v m 0 < 2 ^ b) → get_or (x ∷ v) k 0 < 2 ^ b
cons_lt b x v zero l h = l
cons_lt b x v (suc k) l h = h k

pub words_cons : (b n x : ℕ) (v : List ℕ) → x < 2 ^ b → Words b n v → Words b (suc n) (x ∷ v)
words_cons b n x v l h = (ap suc h.0, λ k. cons_lt b x v k l h.1)

pub words_none : (b n : ℕ) → Words b n (replicate n 0)
words_none b n = (length-replicate {A = ℕ} n 0, λ k. rw (zeros n k) (pow_pos b))

-- what c bits add, where no place is within them, is themselves
abbrev Past : ℕ → ℕ → List ℕ → Type 0
Past c m ks = All (λ (k : ℕ). c ≤ m * k) ks

module _ (c m x : ℕ) (l : x < 2 ^ c) where
  down_small : (k : ℕ) → c ≤ k → down k x ≡ 0
  unfolding down
  down_small k h = div-eq_of_lt (lt_of_lt_of_le l (pow_mono {i = c} {j = k} h))

  pub mix_small : (ks : List ℕ) → Past c m ks → mix ks m x ≡ x
  unfolding All mix taps
  mix_small [] p = refl
  mix_small (k ∷ ks) p = ap₂ bit_xor (mix_small ks p.1) (down_small (m * k) p.0) ∙ xor_zero_r x

pub start_mix : (ks : List ℕ) (b n : ℕ) (f : ℕ → ℕ) → Past b b ks → f 0 < 2 ^ b → ((k : ℕ) → k < n → f (suc k) ≡ 0) → mix ks b (num_from b (suc n) f 0) ≡ f 0
unfolding num_from num
start_mix ks b n f p l z =
    ap (mix ks b)
    (num_ext b (suc n) (λ (k : ℕ). f (0 + k)) f (λ k m. ap f (zero-add k))
    ∙ ap (λ (y : ℕ). bit_xor (f 0) (up b y)) (num_zero b n (λ (k : ℕ). f (suc k)) z) ∙ ap (bit_xor (f 0)) (up_zero b) ∙ xor_zero_r (f 0))
    ∙ mix_small b b (f 0) l ks p

-- ---- what a number adds, from j on
taps_low : (m b j x : ℕ) (ks : List ℕ) → down (m * j) (taps (λ (k : ℕ). down (m * k)) ks x) % 2 ^ b ≡ lowest ks (λ (i : ℕ). down (m * i) x % 2 ^ b) j
unfolding taps
taps_low m b j x [] = refl
taps_low m b j x (k ∷ ks) =
    let y : ℕ = taps (λ (i : ℕ). down (m * i)) ks x in
    ap (λ (z : ℕ). z % 2 ^ b) (down_add (m * j) y (down (m * k) x)) ∙ xor_mod (down (m * j) y) (down (m * j) (down (m * k) x)) b
    ∙ ap₂ bit_xor (taps_low m b j x ks) (ap (λ (z : ℕ). z % 2 ^ b) (down_places m k j (j + k) x (add_comm k j)))

pub mix_from : (ks : List ℕ) (m b x j : ℕ) → down (m * j) (mix ks m x) % 2 ^ b ≡ lowest ks (λ (i : ℕ). down (m * i) x % 2 ^ b) j
unfolding mix
mix_from ks m b x j = taps_low m b j x ks
