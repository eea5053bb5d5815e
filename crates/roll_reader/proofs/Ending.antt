-- Where the records of a roll end: one record further, what the walk over them hands on, and the answer from it.
-- Assumes nothing.
use Prim.Native.Nat.{ℕ, zero, suc, ◌+◌, ◌-◌, ◌*◌, ◌<◌, ◌≤◌}
use mathlib.Core.Path.{◌≡◌, refl, sym, ap, ◌∙◌}
use mathlib.Core.Bool.{true, false}
use mathlib.Core.Logic.{⊎_elim}
use mathlib.Core.List.{List}
use native.Mathlib.Omega.{arith}
use native.Mathlib.Numerals.{add-one}
use borrow.Author.Tests.{lt-ltb, le-ltb, eq-eqb, ne_eqb}
use lib.ListN.{length}
use Rattle.eif.specs.Numbers.{size_limit, place_count, image_too_long, section_missing, bytes_after_end}
use Rattle.eif.specs.Answers.{refuse, refuse_at}
use Rattle.eif.specs.Rules.{boot_missing}
use Rattle.eif.specs.Table.{filled}
use Rattle.eif.specs.Layout.{header_size, section_header_size, packed_by}
use Rattle.eif.specs.Roll.{record_head_size, flags_record_size, end_type, Ending, ended, stopped, record_at, record_kind, end_verdict, listed_at, blank_record, head_fault, body_fault, end_from, size_as_image, roll_fault, refused_roll, accepted_roll, roll_answer_for, read_rest}
use Rattle.eif.specs.declared.Refusal.{Refusal}
use Rattle.eif.specs.declared.RollRecord.{RollRecord}
use Rattle.eif.specs.declared.Verdict.TheVariants.{Accepted, Refused}
use Rattle.octets.proofs.Logic.{equal_or_not}
use Rattle.eif_lemmas.proofs.Verdicts.{never}
use Rattle.eif_lemmas.proofs.Head.{head_zero}
use Rattle.eif_lemmas.proofs.RollEnd.{ended→}
use Rattle.roll_reader.specs.declared.Walked.{Walked}
use Rattle.roll_reader.specs.Walk.{record_fault, stopped_with, stopped_at, ended_at, walk_for, walk_of}
use Rattle.roll_reader.proofs.Records.{by_head, by_end, by_body}

-- ---- one record further; the walk so far is the whole from here on

module _ (s : List ℕ) (i : ℕ) (few : i ≤ place_count) (so_far : end_from s (suc place_count - i) i ≡ end_from s (suc place_count) 0) where
  more : suc place_count - i ≡ suc (suc place_count - (i + 1))
  more = omega arith

  from_head : (k : ℕ) → k ≡ head_fault s i → (k ≡ 0 → ⊥) → end_from s (suc place_count - i) i ≡ stopped k i
  unfolding end_from
  from_head k e h = rw (more, ← e) (simp (ne_eqb k 0 h))

  stopped_here : (k : ℕ) → end_from s (suc place_count - i) i ≡ stopped k i → stopped_at k i (record_at s i) ≡ walk_of s
  unfolding walk_of
  stopped_here k e = ap (walk_for s) (sym e ∙ so_far)

  pub walk_head : (k : ℕ) → k ≡ head_fault s i → (k ≡ 0 → ⊥) → stopped_at k i (record_at s i) ≡ walk_of s
  walk_head k e h = stopped_here k (from_head k e h)

  module _ (head : head_fault s i ≡ 0) where
    from_end : record_kind s i ≡ end_type → end_from s (suc place_count - i) i ≡ ended i
    unfolding end_from
    from_end e = rw (more, head) (simp (eq-eqb _ _ e))

    module _ (at : ℕ) (kinds : List ℕ) (records : List RollRecord) where
      pub walk_end : record_kind s i ≡ end_type → at ≡ record_at s i
          → kinds ≡ filled (record_kind s) 0 place_count i → records ≡ filled (listed_at s) blank_record place_count i
          → record { verdict = Accepted; count = i; end = at; kinds = kinds; records = records } ≡ walk_of s
      unfolding walk_of ended_at
      walk_end e p q r = rw (p, q, r) (ap (walk_for s) (sym (from_end e) ∙ so_far))

    module _ (other : record_kind s i ≡ end_type → ⊥) where
      from_body : (k : ℕ) → k ≡ body_fault s i → (k ≡ 0 → ⊥) → end_from s (suc place_count - i) i ≡ stopped k i
      unfolding end_from
      from_body k e h = rw (more, head, ← e) (simp (ne_eqb _ _ other, ne_eqb k 0 h))

      from_on : body_fault s i ≡ 0 → end_from s (suc place_count - i) i ≡ end_from s (suc place_count - (i + 1)) (i + 1)
      unfolding end_from
      from_on e = rw (more, head) (simp (ne_eqb _ _ other, e, add-one))

      pub walk_on : body_fault s i ≡ 0 → end_from s (suc place_count - (i + 1)) (i + 1) ≡ end_from s (suc place_count) 0
      walk_on e = sym (from_on e) ∙ so_far

  -- the refusal of a record by any rule
  from_stop : (k : ℕ) → k ≡ record_fault s i → (k ≡ 0 → ⊥) → end_from s (suc place_count - i) i ≡ stopped k i
  from_stop k e h =
      ⊎_elim
      (λ z.
      ⊎_elim
      (λ p. absurd (h (e ∙ sym (by_end s i (sym z) p))))
      (λ other. from_body z other k (e ∙ sym (by_body s i (sym z) other)) h)
      (equal_or_not (record_kind s i) 0))
      (λ z. from_head k (e ∙ sym (by_head s i (head_fault s i) z refl)) h)
      (equal_or_not (head_fault s i) 0)

  pub walk_stop : (k : ℕ) → k ≡ record_fault s i → (k ≡ 0 → ⊥) → stopped_at k i (record_at s i) ≡ walk_of s
  walk_stop k e h = stopped_here k (from_stop k e h)

-- ---- the rules on the whole roll

-- what the records before i take in an image: before each data it has a section header where the roll has a record's head
pub image_size_holds : (s : List ℕ) (i : ℕ) → size_as_image s i ≡ header_size + (section_header_size - record_head_size) * i + record_at s i
unfolding packed_by record_at
image_size_holds s zero = refl
image_size_holds s (suc i) = omega (arith, image_size_holds s i)

module _ (s : List ℕ) (n : ℕ) where
  pub roll_more_holds : record_at s n + record_head_size < length s → bytes_after_end ≡ roll_fault s n
  unfolding roll_fault
  roll_more_holds h = simp (lt-ltb _ _ h)

  module _ (last : length s ≤ record_at s n + record_head_size) where
    pub roll_missing : boot_missing (record_kind s) n ≡ true → section_missing ≡ roll_fault s n
    unfolding roll_fault
    roll_missing e = simp (le-ltb _ _ last, e)

    module _ (complete : boot_missing (record_kind s) n ≡ false) where
      pub roll_long : size_limit < size_as_image s n → image_too_long ≡ roll_fault s n
      unfolding roll_fault
      roll_long h = simp (le-ltb _ _ last, complete, lt-ltb _ _ h)

      pub roll_good : size_as_image s n ≤ size_limit → 0 ≡ roll_fault s n
      unfolding roll_fault
      roll_good h = simp (le-ltb _ _ last, complete, le-ltb _ _ h)

-- ---- the answer

-- what an accepting walk found
pub record Ended (s : List ℕ) (w : Walked) : Type 0 where
  pub ending : end_from s (suc place_count) 0 ≡ ended w.count
  pub few : w.count ≤ place_count
  pub end_at : w.end ≡ record_at s w.count
  pub whole : w.end + record_head_size ≤ length s
  pub kinds_are : w.kinds ≡ filled (record_kind s) 0 place_count w.count
  pub records_are : w.records ≡ filled (listed_at s) blank_record place_count w.count

module _ (s : List ℕ) (w : Walked) where
  by_ending : (x : Ending) → end_from s (suc place_count) 0 ≡ x → w ≡ walk_for s x → w.verdict ≡ Accepted → Ended s w
  unfolding stopped_with ended_at
  by_ending (stopped number index) p e v = never _ (sym (ap (λ (x : Walked). x.verdict) e) ∙ v)
  by_ending (ended n) p e v =
      let c : w.count ≡ n = ap (λ (x : Walked). x.count) e in
      let q = ended→ s (suc place_count) 0 n p in
      let b = q.before in
      let a = ap (λ (x : Walked). x.end) e in
      let h = (head_zero s n q.head).0 in
      record {
        ending = p ∙ ap ended (sym c);
        few = omega arith;
        end_at = a ∙ ap (record_at s) (sym c);
        whole = omega arith;
        kinds_are = ap (λ (x : Walked). x.kinds) e ∙ ap (filled (record_kind s) 0 place_count) (sym c);
        records_are = ap (λ (x : Walked). x.records) e ∙ ap (filled (listed_at s) blank_record place_count) (sym c);
      }

  refused_by : (flags : ℕ) (r : Refusal) (x : Ending) → w ≡ walk_for s x → w.verdict ≡ Refused r → refused_roll (Refused r) ≡ roll_answer_for flags s x
  unfolding stopped_with ended_at
  refused_by flags r (stopped number index) e v = ap refused_roll (sym v ∙ ap (λ (x : Walked). x.verdict) e)
  refused_by flags r (ended n) e v = never r (sym v ∙ ap (λ (x : Walked). x.verdict) e)

  module _ (walked : w ≡ walk_of s) where
    pub walk_ended : w.verdict ≡ Accepted → Ended s w
    unfolding walk_of
    walk_ended v = by_ending (end_from s (suc place_count) 0) refl walked v

    pub read_stopped : (flags : ℕ) (r : Refusal) → w.verdict ≡ Refused r → refused_roll (Refused r) ≡ read_rest flags s
    unfolding walk_of read_rest
    read_stopped flags r v = refused_by flags r (end_from s (suc place_count) 0) walked v

    module _ (flags : ℕ) (accepted : w.verdict ≡ Accepted) (fault : ℕ) (fault-is : fault ≡ roll_fault s w.count) where
      by_fault : (fault ≡ 0 → ⊥) → refused_roll (end_verdict s fault w.count) ≡ read_rest flags s
      unfolding read_rest
      by_fault h =
          let x = walk_ended accepted in
          rw (x.ending, ← fault-is) (simp (ne_eqb fault 0 h))

      pub read_more : fault ≡ bytes_after_end → refused_roll (refuse_at fault 0 (flags_record_size + w.end + record_head_size)) ≡ read_rest flags s
      read_more e = rw (walk_ended accepted).end_at (simp (eq-eqb _ _ e) at (by_fault (λ z. omega arith)))

      pub read_refused : (fault ≡ bytes_after_end → ⊥) → (fault ≡ 0 → ⊥) → refused_roll (refuse fault 0) ≡ read_rest flags s
      read_refused g h = simp (ne_eqb _ _ g) at (by_fault h)

      pub read_accepted : fault ≡ 0 → accepted_roll flags w.count w.records ≡ read_rest flags s
      unfolding read_rest
      read_accepted h =
          let x = walk_ended accepted in
          rw (x.ending, ← fault-is, h, x.records_are) refl
