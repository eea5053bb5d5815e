-- The rules 1 to 11 and 20 over a view, each from the facts that a test gives, and back.
-- Assumes nothing.
use Prim.Native.Nat.{ℕ, ◌<◌, ◌≤◌}
use mathlib.Core.Path.{◌≡◌}
use mathlib.Core.Bool.{true, false, not}
use mathlib.Core.Logic.{⊎_elim}
use native.Mathlib.Omega.{arith}
use borrow.Author.Tests.{lt-ltb, le-ltb, eq-eqb, ne_eqb, ltb-false, eqb-true, not-false}
use lib.Dec.{eqb, ltb}
use Rattle.eif.specs.Numbers.{size_limit, image_too_long, image_too_short, wrong_magic, starts_early, ends_late, sizes_differ, type_not_allowed, not_packed}
use Rattle.eif.specs.Rules.{field_fault, allowed_in, order_fault}
use Rattle.eif.specs.Layout.{magic_number, header_size, View, magic, version, count, offset, table_size, end, start}
use Rattle.eif.specs.Reading.{header_fault, entry_fault, section_fault}
use Rattle.octets.proofs.Logic.{choose_zero, equal_or_not}
use Rattle.eif_lemmas.proofs.Fields.{Fields, fields}

-- ---- the rules 6, 20 and 7 to 11

module _ (v : View) (i : ℕ) where
  pub fault6 : offset v i < start v i → entry_fault v i ≡ starts_early
  unfolding entry_fault
  fault6 h = simp (lt-ltb _ _ h)

  pub fault20 : start v i ≤ offset v i → (offset v i ≡ start v i → ⊥) → entry_fault v i ≡ not_packed
  unfolding entry_fault
  fault20 l h = simp (le-ltb _ _ l, ne_eqb _ _ h)

  module _ (starts : offset v i ≡ start v i) where
    not_early : start v i ≤ offset v i
    not_early = omega arith

    pub fault7 : v.size < end v i → entry_fault v i ≡ ends_late
    unfolding entry_fault
    fault7 h = simp (le-ltb _ _ not_early, eq-eqb _ _ starts, lt-ltb _ _ h)

    module _ (ends : end v i ≤ v.size) where
      pub fault8 : (v.own_size i ≡ table_size v i → ⊥) → entry_fault v i ≡ sizes_differ
      unfolding entry_fault
      fault8 h = simp (le-ltb _ _ not_early, eq-eqb _ _ starts, le-ltb _ _ ends, ne_eqb _ _ h)

      module _ (same : v.own_size i ≡ table_size v i) where
        pub fault9 : allowed_in (version v) (v.kind i) ≡ false → entry_fault v i ≡ type_not_allowed
        unfolding entry_fault
        fault9 h = simp (le-ltb _ _ not_early, eq-eqb _ _ starts, le-ltb _ _ ends, eq-eqb _ _ same, h)

        pub no_fault : allowed_in (version v) (v.kind i) ≡ true → entry_fault v i ≡ 0
        unfolding entry_fault
        no_fault h = simp (le-ltb _ _ not_early, eq-eqb _ _ starts, le-ltb _ _ ends, eq-eqb _ _ same, h)

-- what an entry without a fault has
pub record Sound (v : View) (i : ℕ) : Type 0 where
  pub starts : offset v i ≡ start v i
  pub ends : end v i ≤ v.size
  pub same : v.own_size i ≡ table_size v i
  pub known : allowed_in (version v) (v.kind i) ≡ true

pub sound : (v : View) (i : ℕ) → entry_fault v i ≡ 0 → Sound v i
unfolding entry_fault
sound v i e =
    let a = choose_zero (ltb (offset v i) (start v i)) _ _ e in
    let p = choose_zero (not (eqb (offset v i) (start v i))) _ _ a.1 in
    let b = choose_zero (ltb v.size (end v i)) _ _ p.1 in
    let d = choose_zero (not (eqb (v.own_size i) (table_size v i))) _ _ b.1 in
    let f = choose_zero (not (allowed_in (version v) (v.kind i))) _ _ d.1 in
    record {
      starts = eqb-true _ _ (not-false _ p.0);
      ends = ltb-false _ _ b.0;
      same = eqb-true _ _ (not-false _ d.0);
      known = not-false _ f.0;
    }

module _ (v : View) (i : ℕ) where
  pub fault_entry_holds : (entry_fault v i ≡ 0 → ⊥) → section_fault v i ≡ entry_fault v i
  unfolding section_fault
  fault_entry_holds h = simp (ne_eqb _ _ h)

  pub fault_order : entry_fault v i ≡ 0 → section_fault v i ≡ order_fault v.kind (v.kind i) i
  unfolding section_fault
  fault_order e = simp e

module _ (v : View) where
  pub header1 : size_limit < v.size → image_too_long ≡ header_fault v
  unfolding header_fault
  header1 h = simp (lt-ltb _ _ h)

  module _ (small : v.size ≤ size_limit) where
    pub header2 : v.size < header_size → image_too_short ≡ header_fault v
    unfolding header_fault
    header2 h = simp (le-ltb _ _ small, lt-ltb _ _ h)

    module _ (whole : header_size ≤ v.size) where
      pub header3 : (magic v ≡ magic_number → ⊥) → wrong_magic ≡ header_fault v
      unfolding header_fault
      header3 h = simp (le-ltb _ _ small, le-ltb _ _ whole, ne_eqb _ _ h)

      module _ (magic : magic v ≡ magic_number) where
        -- what is left are the rules 4 and 5
        pub header_fields : field_fault (version v) (count v) ≡ header_fault v
        unfolding header_fault
        header_fields = simp (le-ltb _ _ small, le-ltb _ _ whole, eq-eqb _ _ magic)

-- what an image that none of them refuses has
pub record SoundHeader (v : View) : Type 0 where
  pub small : v.size ≤ size_limit
  pub whole : header_size ≤ v.size
  pub magic : magic v ≡ magic_number
  pub fields : Fields (version v) (count v)

pub header : (v : View) → header_fault v ≡ 0 → SoundHeader v
unfolding header_fault
header v e =
    let a = choose_zero (ltb size_limit v.size) _ _ e in
    let b = choose_zero (ltb v.size header_size) _ _ a.1 in
    let d = choose_zero (not (eqb (magic v) magic_number)) _ _ b.1 in
    record {
      small = ltb-false _ _ a.0;
      whole = ltb-false _ _ b.0;
      magic = eqb-true _ _ (not-false _ d.0);
      fields = fields (version v) (count v) d.1;
    }

-- a section without a fault has no fault of its entry either
pub entry_zero : (v : View) (i : ℕ) → section_fault v i ≡ 0 → entry_fault v i ≡ 0
unfolding section_fault
entry_zero v i e = ⊎_elim (λ z. z) (λ z. simp (ne_eqb (entry_fault v i) 0 z) at e) (equal_or_not (entry_fault v i) 0)

pub sound_of : (v : View) (i : ℕ) → section_fault v i ≡ 0 → Sound v i
sound_of v i e = sound v i (entry_zero v i e)

pub order_of_holds : (v : View) (i : ℕ) → section_fault v i ≡ 0 → order_fault v.kind (v.kind i) i ≡ 0
order_of_holds v i e = simp (fault_order v i (entry_zero v i e)) at e
