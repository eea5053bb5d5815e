-- The rules 4 and 5 on a version and a number of sections, each from the facts that a test gives, and back.
-- Assumes nothing.
use Prim.Native.Nat.{ℕ, ◌<◌, ◌≤◌}
use mathlib.Core.Path.{◌≡◌, sym}
use mathlib.Core.Bool.{not}
use borrow.Author.Tests.{le-leb, lt-leb, leb-true, not-false}
use Rattle.eif.specs.Numbers.{place_count, fewest_sections, oldest_version, newest_version, wrong_version, wrong_count}
use Rattle.eif.specs.Rules.{version_known, count_known, field_fault}
use Rattle.octets.proofs.Logic.{choose_zero, both_true}

module _ (version count : ℕ) where
  pub version_old : version < oldest_version → wrong_version ≡ field_fault version count
  unfolding field_fault
  version_old h = simp (lt-leb _ _ h)

  module _ (low : oldest_version ≤ version) where
    pub version_new : newest_version < version → wrong_version ≡ field_fault version count
    unfolding field_fault
    version_new h = simp (le-leb _ _ low, lt-leb _ _ h)

    module _ (high : version ≤ newest_version) where
      pub count_low : count < fewest_sections → wrong_count ≡ field_fault version count
      unfolding field_fault
      count_low h = simp (le-leb _ _ low, le-leb _ _ high, lt-leb _ _ h)

      module _ (some : fewest_sections ≤ count) where
        pub count_high : place_count < count → wrong_count ≡ field_fault version count
        unfolding field_fault
        count_high h = simp (le-leb _ _ low, le-leb _ _ high, le-leb _ _ some, lt-leb _ _ h)

        pub fields_fine : count ≤ place_count → 0 ≡ field_fault version count
        unfolding field_fault
        fields_fine h = simp (le-leb _ _ low, le-leb _ _ high, le-leb _ _ some, le-leb _ _ h)

-- what fields that neither refuses have
pub record Fields (version count : ℕ) : Type 0 where
  pub low : oldest_version ≤ version
  pub high : version ≤ newest_version
  pub some : fewest_sections ≤ count
  pub few : count ≤ place_count

pub fields : (version count : ℕ) → field_fault version count ≡ 0 → Fields version count
unfolding field_fault
fields version count e =
    let a = choose_zero (not (version_known version)) _ _ e in
    let b = choose_zero (not (count_known count)) _ _ a.1 in
    let k = both_true _ _ (not-false _ a.0) in
    let n = both_true _ _ (not-false _ b.0) in
    record { low = leb-true _ _ k.0; high = leb-true _ _ k.1; some = leb-true _ _ n.0; few = leb-true _ _ n.1 }

-- and back
pub fields_zero : (version count : ℕ) → Fields version count → field_fault version count ≡ 0
fields_zero version count f = sym (fields_fine version count f.low f.high f.some f.few)
