-- The rules 10, 11 and 12, each from what is found among the types.
-- Assumes nothing.
use Prim.Native.Nat.{ℕ}
use mathlib.Core.Path.{◌≡◌, refl}
use mathlib.Core.Bool.{true, false, not}
use borrow.Author.Tests.{eq-eqb, ne_eqb}
use Rattle.eif.specs.Numbers.{kernel, command_line, ramdisk, metadata, metadata_version, ramdisk_before_kernel, type_repeated}
use Rattle.eif.specs.Rules.{seen, order_fault, boot_missing, missing}

module _ (kinds : ℕ → ℕ) (kind n : ℕ) where
  pub after_kernel : kind ≡ ramdisk → seen kinds kernel n ≡ true → 0 ≡ order_fault kinds kind n
  unfolding order_fault
  after_kernel h e = simp (eq-eqb _ _ h, e)

  pub before_kernel : kind ≡ ramdisk → seen kinds kernel n ≡ false → ramdisk_before_kernel ≡ order_fault kinds kind n
  unfolding order_fault
  before_kernel h e = simp (eq-eqb _ _ h, e)

  pub second_of_type : (kind ≡ ramdisk → ⊥) → seen kinds kind n ≡ true → type_repeated ≡ order_fault kinds kind n
  unfolding order_fault
  second_of_type h e = simp (ne_eqb _ _ h, e)

  pub first_of_type : (kind ≡ ramdisk → ⊥) → seen kinds kind n ≡ false → 0 ≡ order_fault kinds kind n
  unfolding order_fault
  first_of_type h e = simp (ne_eqb _ _ h, e)

module _ (kinds : ℕ → ℕ) (n : ℕ) where
  pub no_kernel : seen kinds kernel n ≡ false → true ≡ boot_missing kinds n
  no_kernel e = simp e

  pub by_command_line : seen kinds kernel n ≡ true → not (seen kinds command_line n) ≡ boot_missing kinds n
  by_command_line e = simp e

module _ (kinds : ℕ → ℕ) (version n : ℕ) where
  pub boot_lacks : boot_missing kinds n ≡ true → true ≡ missing kinds version n
  unfolding missing
  boot_lacks e = rw e refl

  module _ (boot-there : boot_missing kinds n ≡ false) where
    pub by_metadata : version ≡ metadata_version → not (seen kinds metadata n) ≡ missing kinds version n
    unfolding missing
    by_metadata h = rw boot-there (simp (eq-eqb _ _ h))

    pub none_missing : (version ≡ metadata_version → ⊥) → false ≡ missing kinds version n
    unfolding missing
    none_missing h = rw boot-there (simp (ne_eqb _ _ h))
