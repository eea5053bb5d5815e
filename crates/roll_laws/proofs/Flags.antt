-- The flags record: reading it gives the flags and leaves the rest, and an accepted roll is a flags record and the rest.
-- Assumes nothing.
use Prim.Native.Nat.{ℕ, ◌+◌, ◌^◌, ◌<◌, ◌≤◌}
use mathlib.Core.Path.{◌≡◌, sym, ap, ap₂, ◌∙◌}
use mathlib.Core.List.{List, ◌++◌, append_assoc}
use native.Mathlib.Omega.{arith}
use borrow.Author.Tests.{eqb-true}
use lib.Dec.{eqb}
use lib.ListN.{length, drop, length-append}
use lib.Seq.{drop_at}
use Rattle.octets.specs.Bytes.{AreBytes, le_bytes, le_field}
use Rattle.octets.proofs.Value.{le_field_at}
use Rattle.eif.specs.Roll.{head_of, flags_type, flags_length, flags_record_size, flags_record, flags_fault, roll_flags, rest_of, read_rest, read_roll, record_head_size, record_type_at, record_length_at}
use Rattle.eif.specs.declared.Verdict.TheVariants.{Accepted}
use Rattle.eif_lemmas.proofs.Verdicts.{never}
use Rattle.eif_lemmas.proofs.Head.{length_head, head_size, head_kind}
use Rattle.eif_lemmas.proofs.Flags.{length_flags, flags_zero, zero_flags}
use Rattle.octets.proofs.Fields.{le_split}
use Rattle.octets.proofs.Logic.{choose_holds}
use Rattle.eif.specs.declared.RollReading.{RollReading}

-- ---- a flags record and what follows it

module _ (f : ℕ) (r : List ℕ) where
  pub flags_past : rest_of (flags_record f ++ r) ≡ r
  flags_past = drop_at (flags_record f) r flags_record_size (length_flags f)

  head_first : flags_record f ++ r ≡ head_of flags_length flags_type ++ (le_bytes flags_length f ++ r)
  unfolding flags_record
  head_first = append_assoc (head_of flags_length flags_type) (le_bytes flags_length f) r

  flags_fine : flags_fault (flags_record f ++ r) ≡ 0
  flags_fine =
      let n = length-append (flags_record f) r in
      let m = length_flags f in
      zero_flags (flags_record f ++ r)
      (record {
        whole = omega arith;
        kind = ap (le_field 2 record_type_at) head_first ∙ head_kind flags_length flags_type _ (omega arith);
        size = ap (le_field 8 record_length_at) head_first ∙ head_size flags_length flags_type _ (omega arith);
      })

  pub flags_back : f < 2 ^ 16 → roll_flags (flags_record f ++ r) ≡ f
  flags_back h = ap roll_flags head_first ∙ le_field_at flags_length f record_head_size (head_of flags_length flags_type) r (length_head flags_length flags_type) h

  -- reading goes on with the rest
  pub read_on : read_roll (flags_record f ++ r) ≡ read_rest (roll_flags (flags_record f ++ r)) r
  unfolding read_roll
  read_on = simp flags_fine (ap (read_rest (roll_flags (flags_record f ++ r))) flags_past)

-- two that begin alike are of the same flags, and the same follows
pub flags_same : (f g : ℕ) (r q : List ℕ) → f < 2 ^ 16 → g < 2 ^ 16 → flags_record f ++ r ≡ flags_record g ++ q → (f ≡ g) × (r ≡ q)
flags_same f g r q hf hg e = (
  sym (flags_back f r hf) ∙ ap roll_flags e ∙ flags_back g q hg,
  sym (flags_past f r) ∙ ap rest_of e ∙ flags_past g q,
)

-- ---- an accepted roll

module _ (s : List ℕ) (w : AreBytes s) where
  -- a head and what stands after it
  pub head_split : (at : ℕ) → at + record_head_size ≤ length s
      → drop at s ≡ head_of (le_field 8 at s) (le_field 2 (at + record_type_at) s) ++ drop (at + record_head_size) s
  unfolding head_of
  head_split at h =
      let e : at + record_type_at + 2 ≡ at + record_head_size = omega arith in
      le_split s w 8 at (omega arith)
      ∙ ap (λ (r : List ℕ). le_bytes 8 (le_field 8 at s) ++ r) (le_split s w 2 (at + record_type_at) (omega arith) ∙ ap (λ (m : ℕ). le_bytes 2 (le_field 2 (at + record_type_at) s) ++ drop m s) e)
      ∙ sym (append_assoc (le_bytes 8 (le_field 8 at s)) (le_bytes 2 (le_field 2 (at + record_type_at) s)) (drop (at + record_head_size) s))

  pub flags_split : flags_fault s ≡ 0 → s ≡ flags_record (roll_flags s) ++ rest_of s
  flags_split e =
      let a = flags_zero s e in
      let n = a.whole in
      head_split 0 (omega arith)
      ∙ ap₂ (λ (x : List ℕ) (y : List ℕ). x ++ y) (ap₂ head_of a.size a.kind) (le_split s w flags_length record_head_size (omega arith))
      ∙ sym (head_first (roll_flags s) (rest_of s))

pub read_accepted : (s : List ℕ) → (read_roll s).verdict ≡ Accepted → (flags_fault s ≡ 0) × ((read_rest (roll_flags s) (rest_of s)).verdict ≡ Accepted)
unfolding read_roll
read_accepted s e =
    choose_holds (λ (r : RollReading). r.verdict ≡ Accepted → (flags_fault s ≡ 0) × ((read_rest (roll_flags s) (rest_of s)).verdict ≡ Accepted)) (eqb (flags_fault s) 0) _ _
    (λ q v. (eqb-true _ _ q, v)) (λ _ v. never _ v) e
