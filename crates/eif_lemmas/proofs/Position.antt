-- The position of a refusal: a verdict with it accepts when the verdict does, and an index is a place of the table.
-- Assumes nothing.
use Prim.Native.Nat.{ℕ, zero, suc, ◌+◌, ◌<◌, ◌≤◌}
use mathlib.Core.Path.{◌≡◌, refl}
use native.Mathlib.Omega.{arith}
use lib.Dec.{eqb}
use Rattle.eif.specs.Numbers.{place_count}
use Rattle.eif.specs.Answers.{refuse, verdict_at, index_of, and_then, whole_verdict}
use Rattle.eif.specs.Rules.{first_fault, first_refusal, missing_fault}
use Rattle.eif.specs.Layout.{View, count, version}
use Rattle.eif.specs.Reading.{header_fault, section_fault, located, judged, early}
use Rattle.eif.specs.declared.Verdict.{Verdict}
use Rattle.eif.specs.declared.Verdict.TheVariants.{Accepted, Refused}
use Rattle.eif_lemmas.proofs.Verdicts.{never, then_accepted, accepted_zero}
use Rattle.eif_lemmas.proofs.View.{header}
use Rattle.octets.proofs.Logic.{choose_holds}

pub located_accepted : (header : ℕ → ℕ → ℕ) (x : Verdict) → located header x ≡ Accepted → x ≡ Accepted
located_accepted header Accepted e = refl
located_accepted header (Refused r) e = never _ e

pub early_accepted : (v : View) → early v ≡ Accepted → judged v ≡ Accepted
unfolding early
early_accepted v e = located_accepted _ _ (then_accepted _ _ e).0

-- ---- the index of a verdict is below a bound

module _ (m : ℕ) (some : 0 < m) where
  then_index : (a b : Verdict) → index_of a < m → (a ≡ Accepted → index_of b < m) → index_of (and_then a b) < m
  then_index Accepted b h g = g refl
  then_index (Refused r) b h g = h

  at_index : (n i : ℕ) → i < m → index_of (verdict_at n i 0) < m
  at_index n i h = choose_holds (λ (v : Verdict). index_of v < m) (eqb n 0) Accepted (refuse n i) (λ _. some) (λ _. h)

  whole_index : (n : ℕ) → index_of (whole_verdict n) < m
  whole_index n = at_index n 0 some

  pub walk_index : (fault : ℕ → ℕ) (n i : ℕ) → i + n ≤ m → index_of (first_fault fault n i) < m
  unfolding first_refusal
  walk_index fault zero i h = some
  walk_index fault (suc n) i h =
      then_index (verdict_at (fault i) i 0) (first_fault fault n (suc i)) (at_index (fault i) i (omega arith)) (λ _. walk_index fault n (suc i) (omega arith))

pub judged_index : (v : View) → index_of (judged v) < place_count
unfolding judged
judged_index v =
    let some : 0 < place_count = omega arith in
    let walk : Verdict = first_fault (section_fault v) (count v) 0 in
    let fault = missing_fault v.kind (version v) (count v) in
    let last : Verdict = whole_verdict fault in
    then_index place_count some (whole_verdict (header_fault v)) (and_then walk last) (whole_index place_count some (header_fault v))
    (λ e.
    let few = (header v (accepted_zero (header_fault v) 0 0 e)).fields.few in
    then_index place_count some walk last (walk_index place_count some (section_fault v) (count v) 0 (omega arith)) (λ a. whole_index place_count some fault))
