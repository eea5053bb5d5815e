-- Where the command line of an accepted image stands before its second ramdisk, or there is no second one, Whole is Boot and then App.
-- Assumes nothing.
use Prim.Native.Nat.{ℕ, zero, suc, ◌+◌, ◌<◌, ◌≤◌}
use mathlib.Core.Path.{◌≡◌, refl, sym, ap, ◌∙◌}
use mathlib.Core.Bool.{Bool, true, false, not}
use mathlib.Core.List.{List, [], ◌∷◌, ◌++◌}
use mathlib.Core.Logic.{⊎_elim}
use native.Mathlib.Omega.{arith}
use borrow.Author.Tests.{leb-true, ltb-true, lt-ltb, eq-eqb, ne_eqb}
use lib.Dec.{eqb, ltb}
use lib.ListN.{length, get_or, take}
use Rattle.octets.specs.Logic.{both, choose}
use Rattle.eif.specs.Numbers.{place_count, kernel, command_line, ramdisk}
use Rattle.eif.specs.Layout.{count_of, kind_at}
use Rattle.octets.proofs.Lists.{joined_append}
use Rattle.eif.specs.Reading.{data_of, ramdisk_in, blank_section, section_at, sections_of, ramdisks_in, section_kind}
use Rattle.eif.specs.Rules.{boot_type}
use Rattle.eif.specs.Stream.{later_ramdisk, keeps, kept, stream_sections, sections_data, stream_of}
use Rattle.eif.specs.Acceptance.{MeetsRules}
use Rattle.eif.specs.declared.Section.{Section}
use Rattle.eif.specs.declared.Stream.TheVariants.{Whole, Boot, App}
use Rattle.octets.proofs.Logic.{both_true, equal_or_not, not_both, le_or_lt}
use Rattle.eif_lemmas.proofs.Accept.{section_is}
use Rattle.eif_lemmas.proofs.Table.{filled_past}
use Rattle.eif_laws.proofs.Acceptance.{accepted_exactly_when}
use Rattle.stream_laws.specs.Sums.{ramdisks_before}
use Rattle.stream_laws.proofs.Sections.{later_in}

-- ---- of any sections

-- a kernel or a command line stands at place i
record Single (l : List Section) (i : ℕ) : Type 0 where
  inside : i < length l
  boot : boot_type (get_or l i blank_section).kind ≡ true
  other : (get_or l i blank_section).kind ≡ ramdisk → ⊥

after : (x : Section) (xs : List Section) (i : ℕ) → Single xs i → Single (x ∷ xs) (suc i)
after x xs i h = let l = h.inside in record { inside = omega arith; boot = h.boot; other = h.other }

-- Boot keeps none of them where a ramdisk stands before all
none_in_boot : (x : Section) (xs : List Section) (before : ℕ) → 1 ≤ before → (Single (x ∷ xs) 0 → ⊥) → (t r : Bool) → boot_type x.kind ≡ t → eqb x.kind ramdisk ≡ r
    → both t (not (both r (ltb 0 before))) ≡ false
none_in_boot x xs before some lacks false r e f = refl
none_in_boot x xs before some lacks true true e f = rw (lt-ltb 0 before (omega arith)) refl
none_in_boot x xs before some lacks true false e f =
    absurd (lacks (record { inside = omega arith; boot = e; other = λ k. not_both (sym f ∙ eq-eqb _ _ k) }))

boot_empty : (before : ℕ) (l : List Section) → 1 ≤ before → ((i : ℕ) → Single l i → ⊥) → kept Boot section_kind before l ≡ []
unfolding kept keeps
boot_empty before [] some lacks = refl
boot_empty before (x ∷ xs) some lacks =
    let rest : List Section = kept Boot section_kind (before + ramdisk_in x.kind) xs in
    ap (λ (b : Bool). choose b (x ∷ rest) rest) (none_in_boot x xs before some (lacks 0) (boot_type x.kind) (eqb x.kind ramdisk) refl refl)
    ∙ boot_empty (before + ramdisk_in x.kind) xs (omega arith) (λ i h. lacks (suc i) (after x xs i h))

-- one section more: kept by none, by Whole and Boot, or by Whole and App, where Boot then keeps nothing after it
parts_joined_holds : (t later : Bool) (x : Section) (w b a : List Section) → w ≡ b ++ a → (later ≡ true → b ≡ []) → both later (not t) ≡ false
    → choose t (x ∷ w) w ≡ choose (both t (not later)) (x ∷ b) b ++ choose later (x ∷ a) a
parts_joined_holds true true x w b a e n z =
    ap (λ (l : List Section). x ∷ l) (e ∙ ap (λ (l : List Section). l ++ a) (n refl)) ∙ sym (ap (λ (l : List Section). l ++ (x ∷ a)) (n refl))
parts_joined_holds true false x w b a e n z = ap (λ (l : List Section). x ∷ l) e
parts_joined_holds false true x w b a e n z = not_both (sym z)
parts_joined_holds false false x w b a e n z = e

-- a kernel or a command line has at most one ramdisk before it
abbrev Early : ℕ → List Section → Type 0
Early before l = (i : ℕ) → Single l i → before + ramdisks_in section_kind (take i l) ≤ 1

early_rest : (before : ℕ) (x : Section) (xs : List Section) → Early before (x ∷ xs) → Early (before + ramdisk_in x.kind) xs
early_rest before x xs h i q = let g = h (suc i) (after x xs i q) in omega arith

nothing_after : (before : ℕ) (x : Section) (xs : List Section) → Early before (x ∷ xs) → later_ramdisk x.kind before ≡ true
    → kept Boot section_kind (before + ramdisk_in x.kind) xs ≡ []
nothing_after before x xs h e =
    let b = both_true (eqb x.kind ramdisk) (ltb 0 before) e in
    let k : ramdisk_in x.kind ≡ 1 = ap (λ (c : Bool). choose c 1 0) b.0 in
    let p : 0 < before = ltb-true 0 before b.1 in
    boot_empty (before + ramdisk_in x.kind) xs (omega arith) (λ i q. let g = early_rest before x xs h i q in omega arith)

whole_is_parts : (before : ℕ) (l : List Section) → Early before l → kept Whole section_kind before l ≡ kept Boot section_kind before l ++ kept App section_kind before l
unfolding kept keeps
whole_is_parts before [] h = refl
whole_is_parts before (x ∷ xs) h =
    let next : ℕ = before + ramdisk_in x.kind in
    parts_joined_holds (boot_type x.kind) (later_ramdisk x.kind before) x (kept Whole section_kind next xs) (kept Boot section_kind next xs) (kept App section_kind next xs)
    (whole_is_parts next xs (early_rest before x xs h))
    (nothing_after before x xs h)
    (later_in x.kind before (eqb x.kind ramdisk) refl)

-- ---- of an image

-- none among the first sections, if none of these is a ramdisk
none_before : (l : List Section) (i : ℕ) → ((j : ℕ) → j < i → (get_or l j blank_section).kind ≡ ramdisk → ⊥) → ramdisks_in section_kind (take i l) ≡ 0
none_before [] zero lacks = refl
none_before [] (suc i) lacks = refl
none_before (x ∷ xs) zero lacks = refl
none_before (x ∷ xs) (suc i) lacks =
    let z : ramdisk_in x.kind ≡ 0 = ap (λ (c : Bool). choose c 1 0) (ne_eqb x.kind ramdisk (lacks 0 (omega arith))) in
    let r = none_before xs i (λ j h. lacks (suc j) (omega arith)) in
    omega arith

module _ (s : List ℕ) (meets : MeetsRules s) where
  place : (i : ℕ) → i < count_of s → get_or (sections_of s) i blank_section ≡ section_at s i
  place = section_is s ((accepted_exactly_when s).1 meets)

  used : (i : ℕ) → Single (sections_of s) i → i < count_of s
  used i h =
      ⊎_elim
      (λ (g : count_of s ≤ i).
      not_both (ap (λ (x : Section). boot_type x.kind) (sym (filled_past (section_at s) blank_section place_count (count_of s) i g)) ∙ h.boot))
      (λ (g : i < count_of s). g)
      (le_or_lt (count_of s) i)

  -- no ramdisk stands before the kernel
  kernel_first : (i : ℕ) → i < count_of s → kind_at s i ≡ kernel → ramdisks_before s i ≡ 0
  kernel_first i h k =
      none_before (sections_of s) i
      (λ j l e.
      let q = meets.kernel_before j (omega arith) (sym (ap (λ (x : Section). x.kind) (place j (omega arith))) ∙ e) in
      let ql = q.1 in
      let r = meets.single i q.0 (omega arith) h (q.2 ∙ sym k) in
      omega arith)

  -- Whole begins with Boot, and App is the rest.
  pub whole_begins_with_boot : ((i : ℕ) → i < count_of s → kind_at s i ≡ command_line → ramdisks_before s i ≤ 1)
      → stream_of s Whole ≡ stream_of s Boot ++ stream_of s App
  unfolding stream_of
  whole_begins_with_boot line =
      ap (sections_data s) (whole_is_parts 0 (sections_of s) early) ∙ joined_append (data_of s) (stream_sections Boot (sections_of s)) (stream_sections App (sections_of s))
    where
      early : Early 0 (sections_of s)
      early i h =
          let u = used i h in
          let e : kind_at s i ≡ (get_or (sections_of s) i blank_section).kind = sym (ap (λ (x : Section). x.kind) (place i u)) in
          let t = both_true _ _ h.boot in
          let low : kernel ≤ (get_or (sections_of s) i blank_section).kind = leb-true _ _ t.0 in
          let high : (get_or (sections_of s) i blank_section).kind ≤ ramdisk = leb-true _ _ t.1 in
          ⊎_elim
          (λ (k : kind_at s i ≡ kernel). let z = kernel_first i u k in omega arith)
          (λ (n : kind_at s i ≡ kernel → ⊥). let r = line i u (two i e low high n h.other) in omega arith)
          (equal_or_not (kind_at s i) kernel)
        where
          two : (i : ℕ) {k : ℕ} → kind_at s i ≡ k → kernel ≤ k → k ≤ ramdisk → (kind_at s i ≡ kernel → ⊥) → (k ≡ ramdisk → ⊥) → kind_at s i ≡ command_line
          two i {k} e a b n m = omega arith
