-- The rules on the flags record, each from plain facts on what was read, and the answer from them and from the rest.
-- Assumes nothing.
use Prim.Native.Nat.{ℕ, ◌-◌, ◌<◌, ◌≤◌}
use mathlib.Core.Path.{◌≡◌, ap₂}
use mathlib.Core.List.{List}
use borrow.Author.Tests.{lt-ltb, le-ltb, eq-eqb, ne_eqb}
use borrow.Author.Rules.{part_to_end}
use lib.ListN.{length, take}
use Rattle.octets.specs.Bytes.{le_field}
use Rattle.eif.specs.Numbers.{record_cut, record_type_wrong}
use Rattle.eif.specs.Answers.{refuse}
use Rattle.eif.specs.Roll.{record_head_size, flags_type, flags_length, flags_record_size, flags_fault, roll_flags, rest_of, refused_roll, read_rest, read_roll, record_type_at, record_length_at}

module _ (s : List ℕ) where
  pub flags_head_cut : length s < record_head_size → record_cut ≡ flags_fault s
  unfolding flags_fault
  flags_head_cut h = simp (lt-ltb _ _ h)

  module _ (head : record_head_size ≤ length s) where
    pub flags_kind : (le_field 2 record_type_at s ≡ flags_type → ⊥) → record_type_wrong ≡ flags_fault s
    unfolding flags_fault
    flags_kind h = simp (le-ltb _ _ head, ne_eqb _ _ h)

    module _ (kind : le_field 2 record_type_at s ≡ flags_type) where
      pub flags_size : (le_field 8 record_length_at s ≡ flags_length → ⊥) → record_type_wrong ≡ flags_fault s
      unfolding flags_fault
      flags_size h = simp (le-ltb _ _ head, eq-eqb _ _ kind, ne_eqb _ _ h)

      module _ (size : le_field 8 record_length_at s ≡ flags_length) where
        pub flags_cut : length s < flags_record_size → record_cut ≡ flags_fault s
        unfolding flags_fault
        flags_cut h = simp (le-ltb _ _ head, eq-eqb _ _ kind, eq-eqb _ _ size, lt-ltb _ _ h)

  -- ---- the answer

  pub read_flags_refused : (k : ℕ) → k ≡ flags_fault s → (k ≡ 0 → ⊥) → refused_roll (refuse k 0) ≡ read_roll s
  unfolding read_roll
  read_flags_refused k e h = rw (← e) (simp (ne_eqb k 0 h))

  pub read_on : flags_fault s ≡ 0 → (f : ℕ) → f ≡ roll_flags s → read_rest f (take (length s - flags_record_size) (rest_of s)) ≡ read_roll s
  unfolding read_roll
  read_on e f q = rw e (ap₂ read_rest q (part_to_end s flags_record_size))
