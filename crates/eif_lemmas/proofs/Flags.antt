-- The flags record of a roll: its size, and its rules said without an order of tests.
-- Assumes nothing.
use Prim.Native.Nat.{ℕ, ◌≤◌}
use mathlib.Core.Path.{◌≡◌, refl}
use mathlib.Core.List.{List}
use native.Mathlib.Omega.{arith}
use borrow.Author.Tests.{eq-eqb, le-ltb, eqb-true, ltb-false, not-false}
use lib.Dec.{ltb}
use lib.ListN.{length}
use Rattle.octets.specs.Bytes.{le_field}
use Rattle.eif.specs.Roll.{record_head_size, head_of, flags_type, flags_length, flags_record_size, flags_record, flags_fault, record_type_at, record_length_at, flags_head_wrong}
use Rattle.octets.proofs.Logic.{choose_zero, either_false}

pub length_flags : (f : ℕ) → length (flags_record f) ≡ flags_record_size
unfolding flags_record head_of
length_flags f = refl

pub record Flagged (s : List ℕ) : Type 0 where
  pub whole : flags_record_size ≤ length s
  pub kind : le_field 2 record_type_at s ≡ flags_type
  pub size : le_field 8 record_length_at s ≡ flags_length

module _ (s : List ℕ) where
  pub flags_zero : flags_fault s ≡ 0 → Flagged s
  unfolding flags_fault
  flags_zero e =
      let a = choose_zero (ltb (length s) record_head_size) _ _ e in
      let b = choose_zero (flags_head_wrong s) _ _ a.1 in
      let c = choose_zero (ltb (length s) flags_record_size) _ 0 b.1 in
      let t = either_false _ _ b.0 in
      record { whole = ltb-false _ _ c.0; kind = eqb-true _ _ (not-false _ t.0); size = eqb-true _ _ (not-false _ t.1) }

  pub zero_flags : Flagged s → flags_fault s ≡ 0
  unfolding flags_fault
  zero_flags a =
      let w = a.whole in
      simp (le-ltb (length s) record_head_size (omega arith), eq-eqb _ _ a.kind, eq-eqb _ _ a.size, le-ltb (length s) flags_record_size w)
