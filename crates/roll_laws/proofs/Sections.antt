-- The sections of an image that a roll holds, one section after the other: what holds of none past the last section, and with each section before, holds
-- of all.
-- Assumes nothing.
use Prim.Native.Nat.{ℕ, zero, suc, ◌+◌, ◌<◌, ◌≤◌}
use mathlib.Core.Path.{◌≡◌, sym, ap, subst, ◌∙◌}
use mathlib.Core.List.{List, [], ◌∷◌}
use native.Mathlib.Omega.{arith}
use Rattle.octets.specs.Logic.{choose}
use Rattle.eif.specs.Numbers.{place_count}
use Rattle.eif.specs.Rules.{boot_type}
use Rattle.eif.specs.Table.{filled}
use Rattle.eif.specs.Reading.{blank_section}
use Rattle.eif.specs.Roll.{measured_in}
use Rattle.eif.specs.declared.Section.{Section}
use Rattle.eif.specs.declared.Stream.TheVariants.{Whole}
use Rattle.eif_lemmas.proofs.Table.{filled_none}
use Rattle.eif_lemmas.proofs.Types.{whole_kept, none_kept}

-- Is: what is known of section i. P: what is to hold of those among the sections from i on.
module _ (n : ℕ) (Is : Section → ℕ → Type 0) (P : ℕ → List Section → Type 0)
    (none : P n [])
    (one : (x : Section) (i : ℕ) (rest : List Section) → i < n → Is x i → P (suc i) rest → P i (choose (boot_type x.kind) (x ∷ rest) rest)) where
  from_section : (m k i : ℕ) (f : ℕ → Section) → k ≤ m → i + k ≡ n → ((j : ℕ) → j < k → Is (f j) (i + j)) → P i (measured_in (filled f blank_section m k))
  unfolding measured_in
  from_section m zero i f h e g =
      let z : n ≡ i = omega arith in
      let l : [] ≡ measured_in (filled f blank_section m 0) = sym (ap measured_in (filled_none f blank_section m) ∙ sym (whole_kept 0 _) ∙ none_kept Whole 0 m) in
      subst (P i) l (subst (λ (j : ℕ). P j []) z none)
  from_section zero (suc k) i f h e g = absurd (omega arith)
  from_section (suc m) (suc k) i f h e g =
      let z : i + 0 ≡ i = omega arith in
      one (f 0) i (measured_in (filled (λ j. f (suc j)) blank_section m k)) (omega arith) (subst (Is (f 0)) z (g 0 (omega arith)))
      (from_section m k (suc i) (λ j. f (suc j)) (omega arith) (omega arith)
      (λ j l. let y : i + suc j ≡ suc i + j = omega arith in subst (Is (f (suc j))) y (g (suc j) (omega arith))))

  pub over_sections : (f : ℕ → Section) → n ≤ place_count → ((j : ℕ) → j < n → Is (f j) j) → P 0 (measured_in (filled f blank_section place_count n))
  over_sections f h g = from_section place_count n 0 f h (omega arith) (λ j l. let z : j ≡ 0 + j = omega arith in subst (Is (f j)) z (g j l))
