-- One section more of a shape. Assumes nothing.
use Prim.Native.Nat.{ℕ, suc, ◌+◌, ◌-◌}
use mathlib.Core.Path.{◌≡◌, ap, ap₂, ◌∙◌}
use mathlib.Core.List.{List}
use native.Mathlib.Omega.{arith}
use lib.ListN.{length, take, drop, get_or}
use Rattle.case_images.specs.Build.{with_section}
use Rattle.case_images.specs.Shapes.{size_from, start_of, packed_from, with_part, with_sections}

module _ (lengths : List ℕ) (from size i n : ℕ) (started : from ≡ start_of lengths n i) (sized : size ≡ size_from lengths n from i) where
  pub next_start : from + size ≡ start_of lengths n (suc i)
  unfolding start_of
  next_start = ap₂ (λ (a b : ℕ). a + b) started (sized ∙ ap (λ (a : ℕ). size_from lengths n a i) started)

module _ (s kinds flags lengths bytes before after : List ℕ) (from size i : ℕ)
    (started : from ≡ start_of lengths (length bytes) i)
    (sized : size ≡ size_from lengths (length bytes) from i)
    (put : before ≡ with_sections s kinds flags lengths bytes i)
    (next : after ≡ with_section before i (packed_from from i) (get_or kinds i 0) (get_or flags i 0) (take (from + size - from) (drop from bytes))) where
  pub next_section : after ≡ with_sections s kinds flags lengths bytes (suc i)
  unfolding with_sections
  next_section =
      let e : from + size - from ≡ size = omega arith in
      next
      ∙ ap₂ (λ (d : List ℕ) (k : ℕ). with_section d i (packed_from from i) (get_or kinds i 0) (get_or flags i 0) (take k (drop from bytes))) put (e ∙ sized)
      ∙ ap (λ (a : ℕ). with_part (with_sections s kinds flags lengths bytes i) kinds flags lengths bytes a i) started
