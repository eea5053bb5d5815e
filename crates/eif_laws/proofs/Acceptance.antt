-- Demand 2 (PROMISES.md): an image is accepted exactly when it meets the rules, checksum included, said with no order and no walk.
-- Assumes nothing.
use Prim.Native.Nat.{ℕ, zero, suc, ◌<◌, ◌≤◌}
use mathlib.Core.Path.{◌≡◌, refl, sym, ap, ◌∙◌}
use mathlib.Core.Bool.{Bool, true, false, not}
use mathlib.Core.List.{List}
use mathlib.Core.Logic.{inl, inr, ⊎_elim}
use native.Mathlib.Omega.{arith}
use native.Mathlib.Nat.{eq-or-lt_of_le, le_of_suc-le-suc}
use borrow.Author.Tests.{eq-eqb, ne_eqb, le-ltb, le-leb, leb-true, not-false}
use lib.Dec.{eqb}
use lib.ListN.{length}
use Rattle.eif.specs.Numbers.{signature_version, metadata_version, kernel, command_line, ramdisk, signature, metadata, ramdisk_before_kernel, type_repeated}
use Rattle.octets.specs.Logic.{both, either, choose}
use Rattle.eif.specs.Rules.{allowed_in, seen, order_fault, boot_missing, missing}
use Rattle.eif.specs.Layout.{view_of, version_of, count_of, kind_at, start_at}
use Rattle.eif.specs.Reading.{section_fault, checksum_of, verdict_of}
use Rattle.eif.specs.Acceptance.{AllowedType, Present, MeetsRules}
use Rattle.eif.specs.declared.Verdict.TheVariants.{Accepted}
use Rattle.octets.proofs.Logic.{choose_zero, both_true, not_both, either_false, equal_or_not}
use Rattle.eif_lemmas.proofs.View.{SoundHeader, no_fault, fault_order}
use Rattle.eif_lemmas.proofs.Accept.{Passes, passes, →accepted, file_ends, sound_at, order_at}

-- ---- a test and the fact it stands for

-- rule 9
module _ (version kind : ℕ) where
  allowed→ : allowed_in version kind ≡ true → AllowedType version kind
  unfolding allowed_in
  allowed→ e = ⊎_elim by_signature no_signature (equal_or_not kind signature)
    where
      by_signature : kind ≡ signature → AllowedType version kind
      by_signature s = inr (inl (s, leb-true _ _ (simp (eq-eqb kind signature s) at e)))

      no_signature : (kind ≡ signature → ⊥) → AllowedType version kind
      no_signature s = ⊎_elim by_metadata by_rest (equal_or_not kind metadata)
        where
          by_metadata : kind ≡ metadata → AllowedType version kind
          by_metadata m = inr (inr (m, leb-true _ _ (simp (ne_eqb kind signature s, eq-eqb kind metadata m) at e)))

          by_rest : (kind ≡ metadata → ⊥) → AllowedType version kind
          by_rest m =
              let b = both_true _ _ (simp (ne_eqb kind signature s, ne_eqb kind metadata m) at e) in
              inl (leb-true _ _ b.0, leb-true _ _ b.1)

  →allowed : AllowedType version kind → allowed_in version kind ≡ true
  unfolding allowed_in
  →allowed (inl p) =
      let a = p.0 in
      let b = p.1 in
      let s : kind ≡ signature → ⊥ = λ e. omega arith in
      let m : kind ≡ metadata → ⊥ = λ e. omega arith in
      simp (ne_eqb kind signature s, ne_eqb kind metadata m, le-leb kernel kind a, le-leb kind ramdisk b)
  →allowed (inr (inl p)) = simp (eq-eqb kind signature p.0, le-leb signature_version version p.1)
  →allowed (inr (inr p)) =
      let k = p.0 in
      let s : kind ≡ signature → ⊥ = λ e. omega arith in
      simp (ne_eqb kind signature s, eq-eqb kind metadata k, le-leb metadata_version version p.1)

-- a type was seen exactly where a place before has it
module _ (kinds : ℕ → ℕ) (kind : ℕ) where
  abbrev Before : ℕ → Type 0
  Before n = (i : ℕ) × (i < n) × (kinds i ≡ kind)

  step→ : (n : ℕ) → (seen kinds kind n ≡ true → Before n) → either (eqb (kinds n) kind) (seen kinds kind n) ≡ true → Before (suc n)
  step→ n rest e = ⊎_elim here earlier (equal_or_not (kinds n) kind)
    where
      here : kinds n ≡ kind → Before (suc n)
      here h = (n, omega arith, h)

      earlier : (kinds n ≡ kind → ⊥) → Before (suc n)
      earlier h =
          let r = rest (simp (ne_eqb (kinds n) kind h) at e) in
          let l = r.1 in
          (r.0, omega arith, r.2)

  seen→ : (n : ℕ) → seen kinds kind n ≡ true → Before n
  unfolding seen
  seen→ zero e = not_both e
  seen→ (suc n) e = step→ n (seen→ n) e

  either_true : (a b : Bool) → b ≡ true → either a b ≡ true
  either_true true b g = refl
  either_true false b g = g

  →seen : (n i : ℕ) → i < n → kinds i ≡ kind → seen kinds kind n ≡ true
  unfolding seen
  →seen zero i h e = absurd (omega arith)
  →seen (suc n) i h e =
      ⊎_elim
      (λ p. simp (eq-eqb (kinds n) kind (ap kinds (sym p) ∙ e)))
      (λ p. either_true (eqb (kinds n) kind) (seen kinds kind n) (→seen n i p e))
      (eq-or-lt_of_le (le_of_suc-le-suc h))

-- the rules 10 and 11
module _ (kinds : ℕ → ℕ) (i : ℕ) where
  kernel_seen : order_fault kinds (kinds i) i ≡ 0 → kinds i ≡ ramdisk → seen kinds kernel i ≡ true
  unfolding order_fault
  kernel_seen e h = go (seen kinds kernel i) (simp (eq-eqb (kinds i) ramdisk h) at e)
    where
      go : (b : Bool) → choose b 0 ramdisk_before_kernel ≡ 0 → b ≡ true
      go true z = refl
      go false z = absurd (omega arith)

  none_seen : order_fault kinds (kinds i) i ≡ 0 → (kinds i ≡ ramdisk → ⊥) → seen kinds (kinds i) i ≡ false
  unfolding order_fault
  none_seen e h = (choose_zero (seen kinds (kinds i) i) _ 0 (simp (ne_eqb (kinds i) ramdisk h) at e)).0

  order_zero : (kinds i ≡ ramdisk → seen kinds kernel i ≡ true) → ((kinds i ≡ ramdisk → ⊥) → seen kinds (kinds i) i ≡ false) → order_fault kinds (kinds i) i ≡ 0
  unfolding order_fault
  order_zero a b = ⊎_elim one other (equal_or_not (kinds i) ramdisk)
    where
      one : kinds i ≡ ramdisk → choose (eqb (kinds i) ramdisk) (choose (seen kinds kernel i) 0 ramdisk_before_kernel) (choose (seen kinds (kinds i) i) type_repeated 0) ≡ 0
      one h = simp (eq-eqb (kinds i) ramdisk h, a h)

      other : (kinds i ≡ ramdisk → ⊥) → choose (eqb (kinds i) ramdisk) (choose (seen kinds kernel i) 0 ramdisk_before_kernel) (choose (seen kinds (kinds i) i) type_repeated 0) ≡ 0
      other h = simp (ne_eqb (kinds i) ramdisk h, b h)

-- rule 12
module _ (kinds : ℕ → ℕ) (version n : ℕ) where
  record Complete : Type 0 where
    kernel_there : seen kinds kernel n ≡ true
    line_there : seen kinds command_line n ≡ true
    metadata_there : version ≡ metadata_version → seen kinds metadata n ≡ true

  complete→ : missing kinds version n ≡ false → Complete
  unfolding missing
  complete→ e =
      let a = either_false (boot_missing kinds n) _ e in
      let b = either_false (not (seen kinds kernel n)) _ a.0 in
      record {
        kernel_there = not-false _ b.0;
        line_there = not-false _ b.1;
        metadata_there = λ v. not-false _ (simp (eq-eqb version metadata_version v) at a.1);
      }

  →complete : Complete → missing kinds version n ≡ false
  unfolding missing
  →complete c = ⊎_elim one other (equal_or_not version metadata_version)
    where
      one : version ≡ metadata_version
          → either (boot_missing kinds n) (both (eqb version metadata_version) (not (seen kinds metadata n))) ≡ false
      one v = simp (c.kernel_there, c.line_there, c.metadata_there v, eq-eqb version metadata_version v)

      other : (version ≡ metadata_version → ⊥)
          → either (boot_missing kinds n) (both (eqb version metadata_version) (not (seen kinds metadata n))) ≡ false
      other v = simp (c.kernel_there, c.line_there, ne_eqb version metadata_version v)

-- ---- the theorem

module _ (s : List ℕ) where
  accepted_meets : verdict_of s ≡ Accepted → MeetsRules s
  accepted_meets e =
      record {
        not_too_long = h.small;
        not_too_short = h.whole;
        right_magic = h.magic;
        known_version = (h.fields.low, h.fields.high);
        known_count = (h.fields.some, h.fields.few);
        starts = λ i l. (sound_at s e i l).starts;
        file_ends = file_ends s e;
        in_file = λ i l. (sound_at s e i l).ends;
        sizes_agree = λ i l. (sound_at s e i l).same;
        types_allowed = λ i l. allowed→ (version_of s) (kind_at s i) (sound_at s e i l).known;
        kernel_before = λ i l r. seen→ (kind_at s) kernel i (kernel_seen (kind_at s) i (order_at s e i l) r);
        single = single;
        has_kernel = seen→ (kind_at s) kernel (count_of s) c.kernel_there;
        has_command_line = seen→ (kind_at s) command_line (count_of s) c.line_there;
        has_metadata = λ v. seen→ (kind_at s) metadata (count_of s) (c.metadata_there v);
        right_checksum = p.sum;
      }
    where
      p : Passes (view_of s) (checksum_of s)
      p = passes s e

      h : SoundHeader (view_of s)
      h = p.head

      c : Complete (kind_at s) (version_of s) (count_of s)
      c = complete→ (kind_at s) (version_of s) (count_of s) p.complete

      single : (i j : ℕ) → j < i → i < count_of s → kind_at s j ≡ kind_at s i → kind_at s i ≡ ramdisk
      single i j l m q = ⊎_elim (λ r. r) (λ r. not_both (sym (none_seen (kind_at s) i (order_at s e i m) r) ∙ →seen (kind_at s) (kind_at s i) i j l q)) (equal_or_not (kind_at s i) ramdisk)

  meets_accepted : MeetsRules s → verdict_of s ≡ Accepted
  meets_accepted m =
      →accepted (view_of s) (checksum_of s)
      (record {
        head =
            record {
              small = m.not_too_long;
              whole = m.not_too_short;
              magic = m.right_magic;
              fields = record { low = m.known_version.0; high = m.known_version.1; some = m.known_count.0; few = m.known_count.1 };
            };
        sections = section;
        complete = →complete (kind_at s) (version_of s) (count_of s) complete;
        no_tail = let f : length s ≤ start_at s (count_of s) = let e = m.file_ends in omega arith in le-ltb (start_at s (count_of s)) (length s) f;
        sum = m.right_checksum;
      })
    where
      found : (kind n : ℕ) → Present s kind n → seen (kind_at s) kind n ≡ true
      found kind n (i, l, e) = →seen (kind_at s) kind n i l e

      complete : Complete (kind_at s) (version_of s) (count_of s)
      complete =
          record {
            kernel_there = found kernel (count_of s) m.has_kernel;
            line_there = found command_line (count_of s) m.has_command_line;
            metadata_there = λ v. found metadata (count_of s) (m.has_metadata v);
          }

      alone : (i : ℕ) → i < count_of s → (kind_at s i ≡ ramdisk → ⊥) → seen (kind_at s) (kind_at s i) i ≡ false
      alone i l r = go (seen (kind_at s) (kind_at s i) i) refl
        where
          go : (b : Bool) → seen (kind_at s) (kind_at s i) i ≡ b → b ≡ false
          go false e = refl
          go true e = let f = seen→ (kind_at s) (kind_at s i) i e in absurd (r (m.single i f.0 f.1 l f.2))

      section : (i : ℕ) → i < count_of s → section_fault (view_of s) i ≡ 0
      section i l =
          fault_order (view_of s) i (no_fault (view_of s) i (m.starts i l) (m.in_file i l) (m.sizes_agree i l) (→allowed (version_of s) (kind_at s i) (m.types_allowed i l)))
          ∙ order_zero (kind_at s) i (λ r. found kernel i (m.kernel_before i l r)) (alone i l)

  -- an image is accepted exactly when it meets the rules
  pub accepted_exactly_when : (verdict_of s ≡ Accepted → MeetsRules s) × (MeetsRules s → verdict_of s ≡ Accepted)
  accepted_exactly_when = (accepted_meets, meets_accepted)
