-- The rest of a roll, behind its flags record, is accepted exactly when it meets every rule, said without an order of tests.
-- Assumes nothing.
use Prim.Native.Nat.{ℕ, suc, ◌+◌, ◌<◌, ◌≤◌}
use mathlib.Core.Path.{◌≡◌, refl, ap, ◌∙◌}
use mathlib.Core.Bool.{Bool, true, false, not}
use mathlib.Core.List.{List}
use mathlib.Core.Logic.{⊎_elim}
use native.Mathlib.Omega.{arith}
use native.Mathlib.Nat.{eq-or-lt_of_le, pos_of_ne-zero}
use borrow.Author.Tests.{eq-eqb, ne_eqb, le-ltb, lt-leb, eqb-true, eqb-false, ltb-false, not-false}
use lib.Dec.{eqb, ltb}
use lib.ListN.{length}
use Rattle.eif_lemmas.proofs.Head.{head_zero, body_zero}
use Rattle.eif_lemmas.proofs.RollEnd.{Clean, EndsAt, ended→, →ended}
use Rattle.eif.specs.Numbers.{size_limit, place_count, kernel, ramdisk}
use Rattle.octets.specs.Logic.{both, choose}
use Rattle.eif.specs.Rules.{order_fault, boot_missing}
use Rattle.eif.specs.Table.{filled}
use Rattle.eif.specs.Roll.{record_head_size, end_type, record_at, record_size, record_kind, is_end, head_fault, body_fault, Ending, ended, stopped, end_from, size_as_image, roll_fault, end_verdict, listed_at, blank_record, accepted_roll, refused_roll, roll_answer_for, read_rest}
use Rattle.eif.specs.declared.RollReading.{RollReading}
use Rattle.eif.specs.declared.Verdict.TheVariants.{Accepted}
use Rattle.octets.proofs.Logic.{choose_zero}
use Rattle.eif_lemmas.proofs.Verdicts.{never}

-- what the accepted rest of a roll has, if it has n records
pub record WholeRoll (s : List ℕ) (n : ℕ) : Type 0 where
  pub few : n ≤ place_count
  pub heads : (i : ℕ) → i ≤ n → record_at s i + record_head_size ≤ length s
  pub known : (i : ℕ) → i < n → (kernel ≤ record_kind s i) × (record_kind s i ≤ ramdisk)
  pub inside : (i : ℕ) → i < n → record_at s (suc i) ≤ length s
  pub order : (i : ℕ) → i < n → order_fault (record_kind s) (record_kind s i) i ≡ 0
  pub end_kind : record_kind s n ≡ end_type
  pub end_size : record_size s n ≡ 0
  pub ends : record_at s n + record_head_size ≡ length s
  pub none_missing : boot_missing (record_kind s) n ≡ false
  pub small : size_as_image s n ≤ size_limit

-- what reading it answers
abbrev pub listed_roll : ℕ → List ℕ → ℕ → RollReading
listed_roll flags s n = accepted_roll flags n (filled (listed_at s) blank_record place_count n)

-- ---- one record

module _ (s : List ℕ) (i : ℕ) where
  zero_head : record_at s i + record_head_size ≤ length s → record_kind s i ≤ ramdisk → both (is_end s i) (not (eqb (record_size s i) 0)) ≡ false → head_fault s i ≡ 0
  unfolding head_fault
  zero_head a b c = simp (le-ltb _ _ a, le-ltb _ _ b, c)

  zero_body : i < place_count → record_at s (suc i) ≤ length s → order_fault (record_kind s) (record_kind s i) i ≡ 0 → body_fault s i ≡ 0
  unfolding body_fault
  zero_body a b c = simp (lt-leb _ _ a, le-ltb _ _ b, c)

-- ---- the whole roll

module _ (s : List ℕ) (n : ℕ) where
  fault_zero : roll_fault s n ≡ 0 → (length s ≤ record_at s n + record_head_size) × (boot_missing (record_kind s) n ≡ false) × (size_as_image s n ≤ size_limit)
  unfolding roll_fault
  fault_zero e =
      let a = choose_zero (ltb (record_at s n + record_head_size) (length s)) _ _ e in
      let b = choose_zero (boot_missing (record_kind s) n) _ _ a.1 in
      let c = choose_zero (ltb size_limit (size_as_image s n)) _ _ b.1 in
      (ltb-false _ _ a.0, b.0, ltb-false _ _ c.0)

  zero_fault : record_at s n + record_head_size ≡ length s → boot_missing (record_kind s) n ≡ false → size_as_image s n ≤ size_limit → roll_fault s n ≡ 0
  unfolding roll_fault
  zero_fault a b c = simp (le-ltb (record_at s n + record_head_size) (length s) (omega arith), b, le-ltb _ _ c)

  end_size_zero : is_end s n ≡ true → both (is_end s n) (not (eqb (record_size s n) 0)) ≡ false → record_size s n ≡ 0
  end_size_zero q e = eqb-true _ _ (not-false _ (simp q at e))

  whole_of : EndsAt s 0 (suc place_count) n → roll_fault s n ≡ 0 → WholeRoll s n
  whole_of t f =
      let b = fault_zero f in
      let u = t.before in
      let h = head_zero s n t.head in
      let k : (i : ℕ) → i < n → Clean s i = λ i l. t.clean i (omega arith) l in
      record {
        few = omega arith;
        heads = λ i l. ⊎_elim (λ (z : i ≡ n). rw z h.0) (λ (z : i < n). (head_zero s i (k i z).head).0) (eq-or-lt_of_le l);
        known = λ i l. (pos_of_ne-zero (eqb-false _ _ (k i l).goes_on), (head_zero s i (k i l).head).1);
        inside = λ i l. (body_zero s i (k i l).body).1;
        order = λ i l. (body_zero s i (k i l).body).2;
        end_kind = eqb-true _ _ t.stops;
        end_size = end_size_zero t.stops h.2;
        ends = let x = h.0 in let y = b.0 in omega arith;
        none_missing = b.1;
        small = b.2;
      }

  ended_of : WholeRoll s n → EndsAt s 0 (suc place_count) n
  ended_of a =
      let f = a.few in
      record {
        from = omega arith;
        before = omega arith;
        clean = λ j k l.
            let y = a.known j l in
            let no : record_kind s j ≡ end_type → ⊥ = λ z. let p = y.0 in omega arith in
            record {
              head = zero_head s j (a.heads j (omega arith)) y.1 (simp (ne_eqb _ _ no));
              goes_on = ne_eqb _ _ no;
              body = zero_body s j (omega arith) (a.inside j l) (a.order j l);
            };
        head = let z = a.end_kind in zero_head s n (a.heads n (omega arith)) (omega arith) (simp (eq-eqb _ _ z, eq-eqb _ _ a.end_size));
        stops = eq-eqb _ _ a.end_kind;
      }

pub roll→ : (flags : ℕ) (s : List ℕ) → (read_rest flags s).verdict ≡ Accepted → WholeRoll s (read_rest flags s).count
unfolding read_rest
roll→ flags s e = go (end_from s (suc place_count) 0) refl e
  where
    fine : (n : ℕ) → end_from s (suc place_count) 0 ≡ ended n → (b : Bool) → eqb (roll_fault s n) 0 ≡ b
        → (choose b (listed_roll flags s n) (refused_roll (end_verdict s (roll_fault s n) n))).verdict ≡ Accepted → WholeRoll s (choose b (listed_roll flags s n) (refused_roll (end_verdict s (roll_fault s n) n))).count
    fine n q true z v = whole_of s n (ended→ s (suc place_count) 0 n q) (eqb-true _ _ z)
    fine n q false z v = never _ v

    go : (x : Ending) → end_from s (suc place_count) 0 ≡ x → (roll_answer_for flags s x).verdict ≡ Accepted → WholeRoll s (roll_answer_for flags s x).count
    go (ended n) q v = fine n q (eqb (roll_fault s n) 0) refl v
    go (stopped k l) q v = never _ v

pub →roll : (flags : ℕ) (s : List ℕ) (n : ℕ) → WholeRoll s n → read_rest flags s ≡ listed_roll flags s n
unfolding read_rest
→roll flags s n a =
    ap (roll_answer_for flags s) (→ended s (suc place_count) 0 n (ended_of s n a)) ∙ simp (zero_fault s n a.ends a.none_missing a.small)
