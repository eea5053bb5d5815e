-- Words of 32 bits folded: the window of 3006 words as a ring, a word further, all around, and read two by two.
-- Assumes nothing.
use Prim.Native.Nat.{ℕ, suc, ◌+◌, ◌-◌, ◌*◌, ◌%◌, ◌^◌, ◌<◌, ◌≤◌}
use mathlib.Core.Path.{◌≡◌, refl, sym, ap, ap₂, ◌∙◌}
use mathlib.Core.List.{List, ◌∷◌}
use native.Mathlib.Omega.{arith}
use native.Mathlib.Nat.{mod-eq_of_lt}
use lib.Dec.{lit≤}
use lib.Pow.{mod-pow-add}
use lib.ListN.{length, get_or, set, replicate}
use lib.Seq.{get_or-set_same, get_or-set_other}
use lib.Bits.{bit_xor, xor_zero_r}
use Rattle.crc32_lemmas.specs.Sizes.{ring_buffer, ring_bytes, ring_last}
use Rattle.octets.specs.Lists.{All}
use Rattle.crc32_lemmas.specs.Fold.{down, mix, num, num_from, ring, remainder_from, lowest, sparser, Words, ring_size, low_ring_power, high_ring_power}
use Rattle.crc32_lemmas.proofs.Sparse.{mix_down, mix_zero, ring_spread}
use Rattle.crc32_lemmas.proofs.Remainder.{At}
use Rattle.crc32_lemmas.proofs.Joined.{up_zero, num_ext, num_down, num_low, num_drop, num_past}
use Rattle.crc32_lemmas.proofs.FoldWords.{Pushed, mix_turn, start_mix, noughts, zeros}

-- the words around the ring
abbrev around : List ℕ → ℕ → ℕ
around v k = get_or v (k % ring_size) 0

module _ (v : List ℕ) (h : Words 32 ring_buffer v) where
  ring_push : (j u : ℕ) → j < ring_size → Pushed ring_last (around v) (around (set v j u)) j u
  ring_push j u l =
      let n = h.0 in
      let e : (j + 1 + ring_last) % ring_size ≡ j = omega arith in (
        (λ k m.
            let o : (j + 1 + k) % ring_size ≡ (j + suc k) % ring_size = omega arith in
            get_or-set_other v j ((j + 1 + k) % ring_size) u 0 (λ q. omega arith) ∙ ap (λ (i : ℕ). get_or v i 0) o),
        ap (λ (i : ℕ). get_or (set v j u) i 0) e ∙ get_or-set_same v j u 0 (omega arith),
      )

  pub ring_turn : (j p q : ℕ) → j < ring_size → p ≡ (j + low_ring_power) % ring_size → q ≡ (j + high_ring_power) % ring_size → (s : List ℕ) (i w : ℕ) → At s i 4 w → i + (4 + ring_bytes) ≤ length s
      → remainder_from s i (mix sparser 32 (ring v j)) ≡ remainder_from s (i + 4) (mix sparser 32 (ring (set v j (bit_xor (bit_xor (bit_xor (get_or v j 0) (get_or v p 0)) (get_or v q 0)) w)) (j + 1)))
  unfolding All
  ring_turn j p q l ep eq s i w a b =
      let o : j ≡ j % ring_size = omega arith in
      let at : ℕ → ℕ = λ (k : ℕ). get_or v k 0 in
      let u : ℕ = bit_xor (lowest sparser (around v) j) w in
      let t : bit_xor (bit_xor (bit_xor (at j) (at p)) (at q)) w ≡ u =
      ap (λ (x : ℕ). bit_xor x w) (ap₂ bit_xor (ap₂ bit_xor (ap at o) (ap at ep)) (ap at eq)) in
      mix_turn sparser 4 ring_last (lit≤ tt, (lit≤ tt, tt)) ring_spread (around v) j (λ k. h.1 (k % ring_size)) s i w a (omega arith) (around (set v j u)) (ring_push j u l)
      ∙ sym (ap (λ (x : ℕ). remainder_from s (i + 4) (mix sparser 32 (ring (set v j x) (j + 1)))) t)

pub ring_round : (v : List ℕ) → ring v ring_size ≡ ring v 0
unfolding num_from
ring_round v =
    num_ext 32 ring_size (λ (k : ℕ). around v (ring_size + k)) (λ (k : ℕ). around v (0 + k))
    (λ k m. let e : (ring_size + k) % ring_size ≡ (0 + k) % ring_size = omega arith in ap (λ (i : ℕ). get_or v i 0) e)

pub start_ring : (x : ℕ) → x < 2 ^ 32 → mix sparser 32 (ring (x ∷ replicate ring_size 0) 0) ≡ x
unfolding All
start_ring x l =
    start_mix sparser 32 ring_last (around (x ∷ noughts ring_size)) (lit≤ tt, (lit≤ tt, tt)) l
    (λ k m. let e : suc k % ring_size ≡ suc k = omega arith in ap (λ (i : ℕ). get_or (x ∷ noughts ring_size) i 0) e ∙ zeros ring_size k)

-- ---- two words as one
module _ (f : ℕ → ℕ) (h : (k : ℕ) → f k < 2 ^ 32) where
  low_two : (n : ℕ) → num 32 (suc (suc n)) f % 2 ^ 64 ≡ f 0 + f 1 * 2 ^ 32
  unfolding down
  low_two n =
      let x : ℕ = num 32 (suc (suc n)) f in
      let a : down 32 x % 2 ^ 32 ≡ f 1 = ap (λ (y : ℕ). y % 2 ^ 32) (num_down 32 (suc n) f (h 0)) ∙ num_low 32 n (λ (k : ℕ). f (suc k)) (h 1) in
      let b : x % 2 ^ 32 ≡ f 0 = num_low 32 (suc n) f (h 0) in
      mod-pow-add x 32 32 ∙ ap₂ (λ (y z : ℕ). y * 2 ^ 32 + z) a b ∙ omega arith

  low_one : num 32 1 f % 2 ^ 64 ≡ f 0
  unfolding num
  low_one = let l = h 0 in ap (λ (x : ℕ). x % 2 ^ 64) (ap (bit_xor (f 0)) (up_zero 32) ∙ xor_zero_r (f 0)) ∙ mod-eq_of_lt (omega arith)

-- as they stand
abbrev ring_word : List ℕ → ℕ → ℕ
ring_word v k = around v (0 + k)

module _ (v : List ℕ) (h : Words 32 ring_buffer v) where
  ring_word_lt : (k : ℕ) → ring_word v k < 2 ^ 32
  ring_word_lt k = h.1 ((0 + k) % ring_size)

  ring_word_at : (k j : ℕ) → k < ring_size → k ≡ j → ring_word v k ≡ get_or v j 0
  ring_word_at k j l e = let o : (0 + k) % ring_size ≡ j = omega arith in ap (λ (n : ℕ). get_or v n 0) o

  from : (i n : ℕ) → ring_size ≡ i + n → down (32 * i) (ring v 0) ≡ num 32 n (λ (k : ℕ). ring_word v (i + k))
  unfolding num_from
  from i n e = ap (λ (m : ℕ). down (32 * i) (num 32 m (ring_word v))) e ∙ num_drop 32 i n (ring_word v) ring_word_lt

  pub pair_in : (i : ℕ) → i < ring_last → get_or v i 0 + get_or v (i + 1) 0 * 2 ^ 32 ≡ down (32 * i) (ring v 0) % 2 ^ 64
  pair_in i l =
      let n : ℕ = ring_last - suc i in
      let e : ring_size ≡ i + suc (suc n) = omega arith in
      let a : i + 0 ≡ i = omega arith in
      sym
      (ap (λ (x : ℕ). x % 2 ^ 64) (from i (suc (suc n)) e)
      ∙ low_two (λ (k : ℕ). ring_word v (i + k)) (λ k. ring_word_lt (i + k)) n
      ∙ ap₂ (λ (x y : ℕ). x + y * 2 ^ 32) (ring_word_at (i + 0) i (omega arith) a) (ring_word_at (i + 1) (i + 1) (omega arith) refl))

  pub pair_last : (i : ℕ) → i ≡ ring_last → get_or v i 0 ≡ down (32 * i) (ring v 0) % 2 ^ 64
  pair_last i q =
      let e : ring_size ≡ i + 1 = omega arith in
      let a : i + 0 ≡ i = omega arith in
      sym (ap (λ (x : ℕ). x % 2 ^ 64) (from i 1 e) ∙ low_one (λ (k : ℕ). ring_word v (i + k)) (λ k. ring_word_lt (i + k)) ∙ ring_word_at (i + 0) i (omega arith) a)

  pub pair_past : (i : ℕ) → ring_size ≤ i → 0 ≡ down (32 * i) (ring v 0) % 2 ^ 64
  unfolding num_from
  pair_past i l = sym (ap (λ (x : ℕ). x % 2 ^ 64) (num_past 32 ring_size i (ring_word v) ring_word_lt l))

-- ---- past the window
pub mix_past : (v : List ℕ) → Words 32 ring_buffer v → down (32 * ring_size) (mix sparser 32 (ring v 0)) ≡ 0
unfolding num_from
mix_past v h =
    sym (mix_down sparser 32 (32 * ring_size) (ring v 0))
    ∙ ap (mix sparser 32) (num_past 32 ring_size ring_size (ring_word v) (ring_word_lt v h) (lit≤ tt)) ∙ mix_zero sparser 32
