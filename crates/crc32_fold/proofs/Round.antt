-- What the three parts of a round of the ring keep: what is left, with what the ring adds to it, has one remainder all along.
-- Assumes nothing.
use Prim.Native.Nat.{ℕ, ◌+◌, ◌*◌}
use mathlib.Core.Path.{◌≡◌, ◌∙◌}
use mathlib.Core.List.{List}
use native.Mathlib.Omega.{arith}
use Rattle.crc32_lemmas.specs.Fold.{remainder_from, sparser, mix, ring, Words}
use Rattle.crc32_lemmas.specs.Sizes.{ring_buffer}

-- the part began at a position, with the ring v₀ and at its word `from`; the round began at `at`, and the ring is v at its word j
abbrev pub RoundKept : List ℕ → ℕ → List ℕ → ℕ → ℕ → List ℕ → ℕ → Type 0
RoundKept s begin v₀ from at v j =
    (remainder_from s (at + j * 4) (mix sparser 32 (ring v j)) ≡ remainder_from s begin (mix sparser 32 (ring v₀ from))) × Words 32 ring_buffer v

pub round_kept_next : (s : List ℕ) (begin : ℕ) (v₀ : List ℕ) (from at : ℕ) (v w : List ℕ) (j : ℕ)
    → (remainder_from s (at + j * 4 + 4) (mix sparser 32 (ring w (j + 1))) ≡ remainder_from s (at + j * 4) (mix sparser 32 (ring v j))) × Words 32 ring_buffer w
    → RoundKept s begin v₀ from at v j → RoundKept s begin v₀ from at w (j + 1)
round_kept_next s begin v₀ from at v w j t h =
    let e : at + (j + 1) * 4 ≡ at + j * 4 + 4 = omega arith in
    (rw e (t.0 ∙ h.0), t.1)
