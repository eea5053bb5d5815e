-- Where the records of a roll end: record n is the end record exactly when its head and all records before it have no fault and none of
-- these is an end record.
-- Assumes nothing.
use Prim.Native.Nat.{ℕ, zero, suc, ◌+◌, ◌<◌, ◌≤◌}
use mathlib.Core.Path.{◌≡◌, refl, sym, ap, subst, ◌∙◌}
use mathlib.Core.Bool.{Bool, true, false}
use mathlib.Core.List.{List}
use mathlib.Core.Logic.{⊎_elim}
use native.Mathlib.Omega.{arith}
use native.Mathlib.Nat.{eq-or-lt_of_le}
use borrow.Author.Tests.{eqb-true}
use lib.Dec.{eqb}
use Rattle.octets.specs.Logic.{choose}
use Rattle.eif.specs.Roll.{is_end, head_fault, body_fault, Ending, ended, stopped, end_from}

never_ended {ℓ} : {A : Type ℓ} (k l n : ℕ) → stopped k l ≡ ended n → A
never_ended k l n e = let z : ◌≡◌ {A = ℕ} 0 1 = cc in absurd (omega arith)

choose_ended : (b : Bool) (x : Ending) (k l n : ℕ) → choose b x (stopped k l) ≡ ended n → (b ≡ true) × (x ≡ ended n)
choose_ended true x k l n e = (refl, e)
choose_ended false x k l n e = never_ended k l n e

same_ended : (i n : ℕ) → ended i ≡ ended n → i ≡ n
same_ended i n e = cc

-- a record that is not the end record and has no fault
pub record Clean (s : List ℕ) (i : ℕ) : Type 0 where
  pub head : head_fault s i ≡ 0
  pub goes_on : is_end s i ≡ false
  pub body : body_fault s i ≡ 0

-- from record i on, in at most m records, the end record is record n
pub record EndsAt (s : List ℕ) (i m n : ℕ) : Type 0 where
  pub from : i ≤ n
  pub before : n < i + m
  pub clean : (j : ℕ) → i ≤ j → j < n → Clean s j
  pub head : head_fault s n ≡ 0
  pub stops : is_end s n ≡ true

module _ (s : List ℕ) where
  -- what follows a head without a fault
  abbrev after_head : ℕ → ℕ → Bool → Ending
  after_head m i b = choose b (ended i) (choose (eqb (body_fault s i) 0) (end_from s m (suc i)) (stopped (body_fault s i) i))

  pub ended→ : (m i n : ℕ) → end_from s m i ≡ ended n → EndsAt s i m n
  unfolding end_from
  ended→ zero i n e = never_ended _ _ n e
  ended→ (suc m) i n e = go (λ q. ended→ m (suc i) n q) (is_end s i) refl a.1
    where
      a : (eqb (head_fault s i) 0 ≡ true) × (after_head m i (is_end s i) ≡ ended n)
      a = choose_ended (eqb (head_fault s i) 0) _ _ _ n e

      go : (end_from s m (suc i) ≡ ended n → EndsAt s (suc i) m n) → (b : Bool) → is_end s i ≡ b → after_head m i b ≡ ended n → EndsAt s i (suc m) n
      go again true q r =
          let z = same_ended i n r in
          record {
            from = omega arith;
            before = omega arith;
            clean = λ j k l. absurd (omega arith);
            head = sym (ap (head_fault s) z) ∙ eqb-true _ _ a.0;
            stops = sym (ap (is_end s) z) ∙ q;
          }
      go again false q r =
          let b = choose_ended (eqb (body_fault s i) 0) _ _ _ n r in
          let t = again b.1 in
          let f = t.from in
          let u = t.before in
          let here : Clean s i = record { head = eqb-true _ _ a.0; goes_on = q; body = eqb-true _ _ b.0 } in
          record {
            from = omega arith;
            before = omega arith;
            clean = λ j k l.
                ⊎_elim
                (λ (z : i ≡ j). subst (Clean s) z here)
                (λ (z : i < j). t.clean j z l)
                (eq-or-lt_of_le k);
            head = t.head;
            stops = t.stops;
          }

  pub →ended : (m i n : ℕ) → EndsAt s i m n → end_from s m i ≡ ended n
  unfolding end_from
  →ended zero i n t = let f = t.from in let u = t.before in absurd (omega arith)
  →ended (suc m) i n t =
      ⊎_elim
      (λ (z : i ≡ n). let h : head_fault s i ≡ 0 = rw z t.head in let q : is_end s i ≡ true = rw z t.stops in simp (h, q) (ap ended z))
      (λ (z : i < n).
      let c = t.clean i (omega arith) z in
      let u = t.before in
      simp (c.head, c.goes_on, c.body) (→ended m (suc i) n (record { from = z; before = omega arith; clean = λ j k l. t.clean j (omega arith) l; head = t.head; stops = t.stops })))
      (eq-or-lt_of_le t.from)
