-- What the checker promises of whatever bytes, said of the grammar and of nothing else: texts exactly are accepted, and the place
-- of a fault is that of the first byte that no text can have there, or the end.
-- Assumes nothing.
use Prim.Native.Nat.{ℕ, suc, ◌<◌, ◌≤◌}
use mathlib.Core.Path.{◌≡◌, refl, ap, sym, ◌∙◌, subst}
use mathlib.Core.List.{List, [], ◌++◌, append_assoc}
use mathlib.Core.Logic.{⊎_elim}
use native.Mathlib.Omega.{arith}
use native.Mathlib.Nat.{eq-or-lt_of_le}
use lib.ListN.{length, take, drop, take-append-drop}
use lib.Seq.{take-take, take-length}
use Rattle.std.specs.declared.result.Result.TheVariants.{Ok, Err}
use Rattle.octets.proofs.Logic.{le_or_lt}
use Rattle.json_grammar.specs.Verdict.{IsText, CanBegin, FaultsFirstAt, IsVerdict, JsonVerdict, Text, Fault}
use Rattle.json_machine.specs.Machine.{value_mode, nothing_open, json_verdict}
use Rattle.json_laws.proofs.Coded.{stack_of}
use Rattle.json_laws.proofs.Walk.{right_from}

-- ---- of the grammar: no bytes have two right verdicts

-- what can begin a text, any beginning of it can
begins_with : (n : ℕ) (p : List ℕ) → CanBegin p → CanBegin (take n p)
unfolding CanBegin
begins_with n p (t, i) =
    let e : take n p ++ (drop n p ++ t) ≡ p ++ t = sym (append_assoc (take n p) (drop n p) t) ∙ ap (λ (l : List ℕ). l ++ t) (take-append-drop n p) in
    (drop n p ++ t, subst (λ (l : List ℕ). IsText l) (sym e) i)

module _ (s : List ℕ) where
  -- the place is the first such: no byte before it is at fault
  pub none_before : (p : ℕ) → FaultsFirstAt s p → (q : ℕ) → q ≤ p → CanBegin (take q s)
  none_before p f q h = subst (λ (l : List ℕ). CanBegin l) (take-take q p s h) (begins_with q (take p s) f.before)

  -- where the place is the end, the bytes only stop early: a text can go on from them
  pub stops_early : FaultsFirstAt s (length s) → CanBegin s
  stops_early f = subst (λ (l : List ℕ). CanBegin l) (take-length s) f.before

  not_less : (p q : ℕ) → FaultsFirstAt s p → FaultsFirstAt s q → p < q → ⊥
  not_less p q f g h = let w = g.within in f.there (omega arith) (none_before q g (suc p) h)

  same_place : (p q : ℕ) → FaultsFirstAt s p → FaultsFirstAt s q → p ≡ q
  same_place p q f g =
      ⊎_elim
      (λ (h : p ≤ q). ⊎_elim (λ (e : p ≡ q). e) (λ (l : p < q). absurd (not_less p q f g l)) (eq-or-lt_of_le h))
      (λ (h : q < p). absurd (not_less q p g f h))
      (le_or_lt p q)

  pub only_verdict : (v w : JsonVerdict) → IsVerdict s v → IsVerdict s w → v ≡ w
  only_verdict (Ok x) (Ok y) a b = refl
  only_verdict (Ok x) (Err g) a b = absurd (b.no_text a)
  only_verdict (Err f) (Ok y) a b = absurd (a.no_text b)
  only_verdict (Err f) (Err g) a b = ap Fault (same_place f.place g.place a b)

-- ---- of the checker

-- it gives the right verdict on whatever bytes
pub right_verdict : (s : List ℕ) → IsVerdict s (json_verdict s)
unfolding json_verdict stack_of
right_verdict s = right_from s [] value_mode nothing_open (omega arith) (refl, refl, refl)

module _ (s : List ℕ) where
  is_verdict : (v : JsonVerdict) → json_verdict s ≡ v → IsVerdict s v
  is_verdict v e = subst (λ (x : JsonVerdict). IsVerdict s x) e (right_verdict s)

  verdict_is : (v : JsonVerdict) → IsVerdict s v → json_verdict s ≡ v
  verdict_is v i = only_verdict s (json_verdict s) v (right_verdict s) i

  -- accepted exactly when the bytes are one text of the grammar within the depth limit
  pub accepted_exactly_when : (json_verdict s ≡ Text → IsText s) × (IsText s → json_verdict s ≡ Text)
  accepted_exactly_when = (is_verdict Text, verdict_is Text)

  -- otherwise the place is that of the first fault
  pub place_exactly_when : (p : ℕ) → (json_verdict s ≡ Fault p → FaultsFirstAt s p) × (FaultsFirstAt s p → json_verdict s ≡ Fault p)
  place_exactly_when p = (is_verdict (Fault p), verdict_is (Fault p))
