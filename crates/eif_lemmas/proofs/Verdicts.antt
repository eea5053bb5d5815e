-- One verdict after another, and the walk that stops at the first place that refuses.
-- Assumes nothing.
use Prim.Native.Nat.{ℕ, zero, suc, ◌+◌, ◌-◌, ◌<◌, ◌≤◌}
use mathlib.Core.Path.{◌≡◌, refl, sym, ap, ◌∙◌}
use mathlib.Core.Bool.{Bool, true, false}
use mathlib.Core.Logic.{⊎_elim}
use native.Mathlib.Omega.{arith}
use native.Mathlib.Numerals.{add-one}
use native.Mathlib.Nat.{eq-or-lt_of_le}
use borrow.Author.Tests.{eq-eqb, ne_eqb, eqb-true}
use lib.Dec.{eqb}
use Rattle.octets.specs.Logic.{choose}
use Rattle.eif.specs.Answers.{refuse, refuse_at, verdict_at, and_then}
use Rattle.eif.specs.Rules.{first_fault, first_refusal}
use Rattle.eif.specs.declared.Refusal.{Refusal}
use Rattle.eif.specs.declared.Verdict.{Verdict}
use Rattle.eif.specs.declared.Verdict.TheVariants.{Accepted, Refused}
use Rattle.octets.proofs.Logic.{le_or_lt, choose_ap}

pub never {ℓ} : {A : Type ℓ} (r : Refusal) → Refused r ≡ Accepted → A
never r e = let z : ◌≡◌ {A = ℕ} 0 1 = cc in absurd (omega arith)

pub choose_accepted : (v : Verdict) (r : Refusal) (b : Bool) → choose b v (Refused r) ≡ Accepted → (b ≡ true) × (v ≡ Accepted)
choose_accepted v r true e = (refl, e)
choose_accepted v r false e = never r e

pub then_accepted : (v w : Verdict) → and_then v w ≡ Accepted → (v ≡ Accepted) × (w ≡ Accepted)
then_accepted Accepted w e = (refl, e)
then_accepted (Refused r) w e = never r e

pub then_same : (a b x y : Verdict) → a ≡ b → (b ≡ Accepted → x ≡ y) → and_then a x ≡ and_then b y
then_same a Accepted x y e h = ap (λ (v : Verdict). and_then v x) e ∙ h refl
then_same a (Refused r) x y e h = ap (λ (v : Verdict). and_then v x) e

pub then_assoc : (a b c : Verdict) → and_then a (and_then b c) ≡ and_then (and_then a b) c
then_assoc Accepted b c = refl
then_assoc (Refused r) b c = refl

-- a test that refuses, and what comes then
pub then_choose : (b : Bool) (r : Refusal) (v w : Verdict) → and_then (choose b (Refused r) v) w ≡ choose b (Refused r) (and_then v w)
then_choose b r v w = choose_ap (λ (x : Verdict). and_then x w) b (Refused r) v

-- a test that refuses, and one that gives the number
pub at_choose : (b : Bool) (n rest i p : ℕ) → eqb n 0 ≡ false → choose b (refuse_at n i p) (verdict_at rest i p) ≡ verdict_at (choose b n rest) i p
at_choose true n rest i p e = simp e
at_choose false n rest i p e = refl

-- where a test would refuse, what is accepted fails it
pub refused_not : (b : Bool) (r : Refusal) (v : Verdict) → choose b (Refused r) v ≡ Accepted → (b ≡ false) × (v ≡ Accepted)
refused_not true r v e = never r e
refused_not false r v e = (refl, e)

pub zero_accepted : (n i p : ℕ) → n ≡ 0 → verdict_at n i p ≡ Accepted
zero_accepted n i p e = simp (eq-eqb n 0 e)

pub accepted_zero : (n i p : ℕ) → verdict_at n i p ≡ Accepted → n ≡ 0
accepted_zero n i p e = eqb-true _ _ (choose_accepted Accepted _ (eqb n 0) e).0

-- ---- the first refusal, one place further

module _ (at : ℕ → Verdict) (i : ℕ) where
  pub refusal_stop : (count : ℕ) → i < count → (r : Refusal) → at i ≡ Refused r → Refused r ≡ first_refusal at (count - i) i
  unfolding first_refusal
  refusal_stop count h r e =
      let n : count - i ≡ suc (count - (i + 1)) = omega arith in
      rw n (simp e)

  pub refusal_on : (count : ℕ) → i < count → at i ≡ Accepted → first_refusal at (count - i) i ≡ first_refusal at (count - (i + 1)) (i + 1)
  unfolding first_refusal
  refusal_on count h e =
      let n : count - i ≡ suc (count - (i + 1)) = omega arith in
      rw n (simp (e, add-one))

-- ---- there is none exactly where each place accepts

module _ (at : ℕ → Verdict) where
  pub refusal_none→ : (n i : ℕ) → first_refusal at n i ≡ Accepted → (j : ℕ) → i ≤ j → j < i + n → at j ≡ Accepted
  unfolding first_refusal
  refusal_none→ zero i e j a b = absurd (omega arith)
  refusal_none→ (suc n) i e j a b =
      let t = then_accepted _ _ e in
      ⊎_elim
      (λ p. ap at (sym p) ∙ t.0)
      (λ l. refusal_none→ n (suc i) t.1 j l (omega arith))
      (eq-or-lt_of_le a)

  pub →refusal-none : (n i : ℕ) → ((j : ℕ) → i ≤ j → j < i + n → at j ≡ Accepted) → first_refusal at n i ≡ Accepted
  unfolding first_refusal
  →refusal-none zero i h = refl
  →refusal-none (suc n) i h = simp (h i (omega arith) (omega arith)) (→refusal-none n (suc i) (λ j a b. h j (omega arith) (omega arith)))

-- two are the same where the verdicts at each place are, as long as none refused before
pub refusal_same : (f g : ℕ → Verdict) (n i : ℕ) → ((k : ℕ) → k < i → g k ≡ Accepted)
    → ((j : ℕ) → j < i + n → ((k : ℕ) → k < j → g k ≡ Accepted) → f j ≡ g j) → first_refusal f n i ≡ first_refusal g n i
unfolding first_refusal
refusal_same f g zero i good h = refl
refusal_same f g (suc n) i good h =
    then_same (f i) (g i) _ _ (h i (omega arith) good)
    (λ z. refusal_same f g n (suc i) (λ k l. ⊎_elim (λ p. good k p) (λ p. ap g (same k l p) ∙ z) (le_or_lt (suc k) i)) (λ j l p. h j (omega arith) p))
  where
    same : (k : ℕ) → k < suc i → i < suc k → k ≡ i
    same k a b = omega arith

-- ---- the same by numbers, 0 for none

module _ (fault : ℕ → ℕ) (i count : ℕ) (h : i < count) where
  pub walk_stop : (k : ℕ) → (k ≡ 0 → ⊥) → fault i ≡ k → refuse k i ≡ first_fault fault (count - i) i
  walk_stop k g e = refusal_stop (λ j. verdict_at (fault j) j 0) i count h _ (simp (e, ne_eqb k 0 g))

  pub walk_on : fault i ≡ 0 → first_fault fault (count - i) i ≡ first_fault fault (count - (i + 1)) (i + 1)
  walk_on e = refusal_on (λ j. verdict_at (fault j) j 0) i count h (zero_accepted (fault i) i 0 e)

module _ (fault : ℕ → ℕ) (n i : ℕ) where
  pub walk_accepted : first_fault fault n i ≡ Accepted → (j : ℕ) → i ≤ j → j < i + n → fault j ≡ 0
  walk_accepted e j a b = accepted_zero (fault j) j 0 (refusal_none→ (λ k. verdict_at (fault k) k 0) n i e j a b)

  pub walk_all : ((j : ℕ) → i ≤ j → j < i + n → fault j ≡ 0) → first_fault fault n i ≡ Accepted
  walk_all h = →refusal-none (λ k. verdict_at (fault k) k 0) n i (λ j a b. zero_accepted (fault j) j 0 (h j a b))

pub walk_same : (f g : ℕ → ℕ) (n : ℕ) → ((j : ℕ) → j < n → ((k : ℕ) → k < j → g k ≡ 0) → f j ≡ g j) → first_fault f n 0 ≡ first_fault g n 0
walk_same f g n h =
    refusal_same (λ j. verdict_at (f j) j 0) (λ j. verdict_at (g j) j 0) n 0 (λ k l. absurd (omega arith))
    (λ j l good. ap (λ (x : ℕ). verdict_at x j 0) (h j (omega arith) (λ k m. accepted_zero (g k) k 0 (good k m))))

-- nothing that refuses after a verdict
pub then_none : (v : Verdict) → and_then v Accepted ≡ v
then_none Accepted = refl
then_none (Refused r) = refl
