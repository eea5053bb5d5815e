-- The sections that a stream keeps: what holds of every section holds of them, the length of their data, and numbers of them added up.
-- Assumes nothing.
use Prim.Native.Nat.{ℕ, ◌+◌, ◌≤◌, suc}
use mathlib.Core.Path.{◌≡◌, refl, sym, ap, ◌∙◌}
use mathlib.Core.Bool.{Bool, true, false, not}
use mathlib.Core.List.{List, [], ◌∷◌, ◌++◌}
use native.Mathlib.Omega.{arith}
use native.Mathlib.Nat.{add-zero, add_assoc}
use borrow.Author.Tests.{eqb-true}
use lib.Dec.{eqb, ltb}
use lib.ListN.{length}
use Rattle.octets.proofs.Logic.{not_both, choose_holds, choose_ap}
use Rattle.octets.specs.Lists.{All, sum_by}
use Rattle.eif.specs.Numbers.{ramdisk}
use Rattle.octets.specs.Logic.{both, choose}
use Rattle.octets.proofs.Lists.{joined_length, sum_same, all_map}
use Rattle.eif.specs.Reading.{ramdisk_in, data_of, ramdisks_in, section_kind}
use Rattle.eif.specs.Rules.{boot_type}
use Rattle.eif.specs.Stream.{later_ramdisk, keeps, kept, stream_sections, sections_data}
use Rattle.eif.specs.declared.Section.{Section}
use Rattle.eif.specs.declared.Stream.{Stream}
use Rattle.eif.specs.declared.Stream.TheVariants.{Whole, Boot, App}
use Rattle.eif_lemmas.proofs.Accept.{Inside, length_data}
use Rattle.stream_laws.specs.Sums.{length_of}

-- ---- types

-- the type of a ramdisk is one of those that a roll holds
ramdisk_in_holds : (kind : ℕ) (b : Bool) → eqb kind ramdisk ≡ b → both b (not (boot_type kind)) ≡ false
ramdisk_in_holds kind true e = ap (λ (k : ℕ). not (boot_type k)) (eqb-true kind ramdisk e)
ramdisk_in_holds kind false e = refl

-- and so is that of a later one
pub later_in : (kind before : ℕ) (b : Bool) → eqb kind ramdisk ≡ b → both (both b (ltb 0 before)) (not (boot_type kind)) ≡ false
later_in kind before true e = by_room (ltb 0 before) (ramdisk_in_holds kind true e)
  where
    by_room : (c : Bool) → both true (not (boot_type kind)) ≡ false → both c (not (boot_type kind)) ≡ false
    by_room true h = h
    by_room false h = refl
later_in kind before false e = refl

-- ---- what is kept, element by element

module _ {A : Type 0} (stream : Stream) (kind_of : A → ℕ) where
  -- of two lists joined
  pub kept_append : (before : ℕ) (k l : List A) → kept stream kind_of before (k ++ l) ≡ kept stream kind_of before k ++ kept stream kind_of (before + ramdisks_in kind_of k) l
  unfolding kept
  kept_append before [] l = ap (λ (n : ℕ). kept stream kind_of n l) (sym (add-zero before))
  kept_append before (x ∷ xs) l =
      let next : ℕ = before + ramdisk_in (kind_of x) in
      let rest : List A = kept stream kind_of next xs in
      let b : Bool = keeps stream (kind_of x) before in
      ap (λ (r : List A). choose b (x ∷ r) r) (kept_append next xs l)
      ∙ sym (choose_ap (λ (r : List A). r ++ kept stream kind_of (next + ramdisks_in kind_of xs) l) b (x ∷ rest) rest)
      ∙ ap (λ (n : ℕ). choose b (x ∷ rest) rest ++ kept stream kind_of n l) (add_assoc before (ramdisk_in (kind_of x)) (ramdisks_in kind_of xs))

  pub kept_fits : (before : ℕ) (l : List A) → length (kept stream kind_of before l) ≤ length l
  unfolding kept
  kept_fits before [] = omega arith
  kept_fits before (x ∷ xs) =
      let h = kept_fits (before + ramdisk_in (kind_of x)) xs in
      choose_holds (λ (l : List A). length l ≤ suc (length xs)) (keeps stream (kind_of x) before) _ _ (λ _. omega arith) (λ _. omega arith)

  module _ (P : A → Type 0) where
    pub all_kept : (before : ℕ) (l : List A) → All P l → All P (kept stream kind_of before l)
    unfolding All kept
    all_kept before [] a = tt
    all_kept before (x ∷ xs) a =
        let rest = all_kept (before + ramdisk_in (kind_of x)) xs a.1 in
        choose_holds (All P) (keeps stream (kind_of x) before) _ _ (λ _. (a.0, rest)) (λ _. rest)

pub all_stream : (P : Section → Type 0) (stream : Stream) (l : List Section) → All P l → All P (stream_sections stream l)
all_stream P stream l a = all_kept stream section_kind P 0 l a

-- ---- the length of data

module _ (s : List ℕ) where
  pub length_joined : (l : List Section) → All (Inside s) l → length (sections_data s l) ≡ sum_by length_of l
  length_joined l a = joined_length (data_of s) l ∙ sum_same (λ x. length (data_of s x)) length_of l (all_map (Inside s) _ (length_data s) l a)

-- ---- numbers added up

module _ (f : Section → ℕ) where
  sum_by_holds : (x : Section) (xs : List Section) (b : Bool) → sum_by f (choose b (x ∷ xs) xs) ≡ choose b (f x) 0 + sum_by f xs
  sum_by_holds x xs true = refl
  sum_by_holds x xs false = omega arith

  -- each section that Whole keeps is kept by one of Boot and App
  one_of : (r later : Bool) (n : ℕ) → both later (not r) ≡ false → choose (both r (not later)) n 0 + choose later n 0 ≡ choose r n 0
  one_of true true n e = omega arith
  one_of true false n e = omega arith
  one_of false true n e = not_both (sym e)
  one_of false false n e = omega arith

  pub sums_add : (before : ℕ) (l : List Section) → sum_by f (kept Boot section_kind before l) + sum_by f (kept App section_kind before l) ≡ sum_by f (kept Whole section_kind before l)
  unfolding kept keeps
  sums_add before [] = refl
  sums_add before (x ∷ xs) =
      let next : ℕ = before + ramdisk_in x.kind in
      let later : Bool = later_ramdisk x.kind before in
      let a = sum_by_holds x (kept Boot section_kind next xs) (both (boot_type x.kind) (not later)) in
      let b = sum_by_holds x (kept App section_kind next xs) later in
      let d = sum_by_holds x (kept Whole section_kind next xs) (boot_type x.kind) in
      omega (arith, one_of (boot_type x.kind) later (f x) (later_in x.kind before (eqb x.kind ramdisk) refl), sums_add next xs)
