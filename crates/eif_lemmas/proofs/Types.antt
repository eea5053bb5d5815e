-- What no roll holds and no stream keeps. The rules on section types, 10, 11 and 12, one earlier section after the other; and that the types
-- alone decide.
-- Assumes nothing.
use Prim.Native.Nat.{ℕ, zero, suc, ◌+◌, ◌<◌, ◌≤◌}
use mathlib.Core.Path.{◌≡◌, refl, sym, ap, ap₂, ◌∙◌}
use mathlib.Core.Bool.{Bool, true, false}
use native.Mathlib.Omega.{arith}
use borrow.Author.Tests.{eq-eqb, ne_eqb}
use lib.Dec.{eqb}
use mathlib.Core.List.{List, [], ◌∷◌}
use lib.ListN.{replicate}
use Rattle.eif.specs.declared.Section.{Section}
use Rattle.eif.specs.Reading.{blank_section, ramdisk_in, section_kind}
use Rattle.eif.specs.Roll.{measured_in}
use Rattle.eif.specs.Numbers.{kernel, command_line, ramdisk, metadata, ramdisk_before_kernel, type_repeated, section_missing}
use Rattle.octets.specs.Logic.{either, choose}
use Rattle.octets.proofs.Logic.{not_both}
use Rattle.eif.specs.Rules.{boot_type, seen, order_fault, boot_missing, missing, type_fault, missing_fault, types_verdict}
use Rattle.eif.specs.Stream.{keeps, kept}
use Rattle.eif.specs.declared.Stream.{Stream}
use Rattle.eif.specs.declared.Stream.TheVariants.{Whole, Boot, App}
use Rattle.eif.specs.Answers.{whole_verdict}
use Rattle.eif_lemmas.proofs.Verdicts.{then_same, walk_same}

-- ---- a type that no roll holds

-- is no ramdisk's
pub not_ramdisk : (kind : ℕ) → boot_type kind ≡ false → eqb kind ramdisk ≡ false
not_ramdisk kind e = ne_eqb kind ramdisk (λ z. not_both (sym e ∙ ap boot_type z))

-- and no stream keeps it
pub not_kept : (stream : Stream) (kind before : ℕ) → boot_type kind ≡ false → keeps stream kind before ≡ false
unfolding keeps
not_kept Whole kind before e = e
not_kept Boot kind before e = simp e
not_kept App kind before e = simp (not_ramdisk kind e)

-- so nothing is kept of unused places
pub none_kept : (stream : Stream) (before m : ℕ) → kept stream section_kind before (replicate m blank_section) ≡ []
unfolding kept
none_kept stream before zero = refl
none_kept stream before (suc m) = rw (not_kept stream blank_section.kind before refl) (none_kept stream (before + 0) m)

-- Whole keeps what a roll holds
pub whole_kept : (before : ℕ) (l : List Section) → kept Whole section_kind before l ≡ measured_in l
unfolding kept keeps measured_in
whole_kept before [] = refl
whole_kept before (x ∷ xs) = ap (λ (r : List Section). choose (boot_type x.kind) (x ∷ r) r) (whole_kept (before + ramdisk_in x.kind) xs)

-- ---- the rules 10 and 11

module _ (kinds : ℕ → ℕ) (kind : ℕ) where
  pub order_none : (kind ≡ ramdisk → ⊥) → order_fault kinds kind 0 ≡ 0
  unfolding order_fault seen
  order_none h = simp (ne_eqb _ _ h)

  pub order_kernel : (j : ℕ) → kind ≡ ramdisk → kinds j ≡ kernel → order_fault kinds kind (suc j) ≡ 0
  unfolding order_fault seen
  order_kernel j h e = simp (eq-eqb _ _ h, eq-eqb _ _ e)

  pub order_lone : kind ≡ ramdisk → order_fault kinds kind 0 ≡ ramdisk_before_kernel
  unfolding order_fault seen
  order_lone h = simp (eq-eqb _ _ h)

  pub order_twice : (j : ℕ) → (kind ≡ ramdisk → ⊥) → kinds j ≡ kind → order_fault kinds kind (suc j) ≡ type_repeated
  unfolding order_fault seen
  order_twice j h e = simp (ne_eqb _ _ h, eq-eqb _ _ e)

  pub order_more_ramdisk : (j : ℕ) → kind ≡ ramdisk → (kinds j ≡ kernel → ⊥) → order_fault kinds kind (suc j) ≡ order_fault kinds kind j
  unfolding order_fault seen
  order_more_ramdisk j h e = simp (eq-eqb _ _ h, ne_eqb _ _ e)

  pub order_more : (j : ℕ) → (kind ≡ ramdisk → ⊥) → (kinds j ≡ kind → ⊥) → order_fault kinds kind (suc j) ≡ order_fault kinds kind j
  unfolding order_fault seen
  order_more j h e = simp (ne_eqb _ _ h, ne_eqb _ _ e)

-- ---- the types alone decide

module _ (f g : ℕ → ℕ) where
  pub seen_same : (kind n : ℕ) → ((j : ℕ) → j < n → f j ≡ g j) → seen f kind n ≡ seen g kind n
  unfolding seen
  seen_same kind zero h = refl
  seen_same kind (suc n) h =
      ap₂ (λ (k : ℕ) (b : Bool). either (eqb k kind) b) (h n (omega arith)) (seen_same kind n (λ j l. h j (omega arith)))

  pub order_same : (kind n : ℕ) → ((j : ℕ) → j < n → f j ≡ g j) → order_fault f kind n ≡ order_fault g kind n
  unfolding order_fault
  order_same kind n h = simp (seen_same kernel n h, seen_same kind n h)

  pub type_same : (version i : ℕ) → ((j : ℕ) → j ≤ i → f j ≡ g j) → type_fault version f i ≡ type_fault version g i
  unfolding type_fault
  type_same version i h = simp (h i (omega arith), order_same (g i) i (λ j l. h j (omega arith)))

  pub boot_missing_same : (n : ℕ) → ((j : ℕ) → j < n → f j ≡ g j) → boot_missing f n ≡ boot_missing g n
  boot_missing_same n h = simp (seen_same kernel n h, seen_same command_line n h)

  pub missing_same : (version n : ℕ) → ((j : ℕ) → j < n → f j ≡ g j) → missing f version n ≡ missing g version n
  unfolding missing
  missing_same version n h = simp (seen_same kernel n h, seen_same command_line n h, seen_same metadata n h)

  pub types_same : (version n : ℕ) → ((j : ℕ) → j < n → f j ≡ g j) → types_verdict version f n ≡ types_verdict version g n
  unfolding types_verdict missing_fault
  types_same version n h =
      then_same _ _ _ _ (walk_same (type_fault version f) (type_fault version g) n (λ j l good. type_same version j (λ k m. h k (omega arith))))
      (λ _. ap (λ (b : Bool). whole_verdict (choose b section_missing 0)) (missing_same version n h))

module _ (kinds : ℕ → ℕ) (kind j : ℕ) where
  pub seen_here : kinds j ≡ kind → seen kinds kind (suc j) ≡ true
  unfolding seen
  seen_here e = simp (eq-eqb _ _ e)

  pub seen_on : (kinds j ≡ kind → ⊥) → seen kinds kind (suc j) ≡ seen kinds kind j
  unfolding seen
  seen_on h = simp (ne_eqb _ _ h)
