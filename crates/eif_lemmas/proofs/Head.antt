-- The head of a record, of a roll or of a transfer: its length, and what reading finds in it and after it. And what a roll's record has that
-- no rule refuses.
-- Assumes nothing.
use Prim.Native.Nat.{ℕ, suc, ◌+◌, ◌^◌, ◌<◌, ◌≤◌}
use mathlib.Core.Path.{◌≡◌, refl}
use mathlib.Core.Bool.{false, not}
use mathlib.Core.List.{List, [], ◌++◌}
use borrow.Author.Tests.{ltb-false, leb-false}
use lib.Dec.{eqb, ltb, leb}
use lib.ListN.{length, drop}
use lib.Seq.{drop_at}
use Rattle.octets.specs.Bytes.{le_bytes, le_field}
use Rattle.octets.proofs.Value.{le_field_at, length_le_bytes}
use Rattle.octets.specs.Logic.{both}
use Rattle.octets.proofs.Logic.{choose_zero}
use Rattle.eif.specs.Numbers.{place_count, ramdisk}
use Rattle.eif.specs.Rules.{order_fault}
use Rattle.eif.specs.Roll.{record_head_size, head_of, record_type_at, record_length_at, record_at, record_size, record_kind, is_end, head_fault, body_fault}

module _ (size kind : ℕ) where
  pub length_head : length (head_of size kind) ≡ record_head_size
  unfolding head_of
  length_head = refl

  module _ (rest : List ℕ) where
    -- the length and the type
    pub head_size : size < 2 ^ 64 → le_field 8 record_length_at (head_of size kind ++ rest) ≡ size
    unfolding head_of
    head_size h = le_field_at 8 size record_length_at [] (le_bytes 2 kind ++ rest) refl h

    pub head_kind : kind < 2 ^ 16 → le_field 2 record_type_at (head_of size kind ++ rest) ≡ kind
    unfolding head_of
    head_kind h = le_field_at 2 kind record_type_at (le_bytes 8 size) rest (length_le_bytes 8 size) h

    -- what follows
    pub head_past : drop record_head_size (head_of size kind ++ rest) ≡ rest
    head_past = drop_at (head_of size kind) rest record_head_size length_head

-- ---- a record of a roll's rest that no rule refuses

module _ (s : List ℕ) (i : ℕ) where
  -- its head is whole, of a known type, and where it is the end record's says no length
  pub head_zero : head_fault s i ≡ 0 → (record_at s i + record_head_size ≤ length s) × (record_kind s i ≤ ramdisk) × (both (is_end s i) (not (eqb (record_size s i) 0)) ≡ false)
  unfolding head_fault
  head_zero e =
      let a = choose_zero (ltb (length s) (record_at s i + record_head_size)) _ _ e in
      let b = choose_zero (ltb ramdisk (record_kind s i)) _ _ a.1 in
      let c = choose_zero (both (is_end s i) (not (eqb (record_size s i) 0))) _ _ b.1 in
      (ltb-false _ _ a.0, ltb-false _ _ b.0, c.0)

  -- a record that is not the end record has a place in the list, and lies in the roll
  pub body_zero : body_fault s i ≡ 0 → (i < place_count) × (record_at s (suc i) ≤ length s) × (order_fault (record_kind s) (record_kind s i) i ≡ 0)
  unfolding body_fault
  body_zero e =
      let a = choose_zero (leb place_count i) _ _ e in
      let b = choose_zero (ltb (length s) (record_at s (suc i))) _ _ a.1 in
      (leb-false _ _ a.0, ltb-false _ _ b.0, b.1)
