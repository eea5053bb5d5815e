-- Which sections a stream keeps: by their type, and one place of a table after the other.
-- Assumes nothing.
use Prim.Native.Nat.{ℕ, suc, ◌+◌, ◌-◌, ◌<◌, ◌≤◌}
use mathlib.Core.Path.{◌≡◌, refl, sym, ap, ◌∙◌}
use mathlib.Core.Bool.{Bool, true, false, not}
use mathlib.Core.List.{List, [], ◌∷◌, ◌++◌, append_assoc, append-nil}
use native.Mathlib.Omega.{arith}
use native.Mathlib.Nat.{zero-add}
use native.Mathlib.Numerals.{add-one}
use lib.ListN.{length, get_or, set, take, replicate, length-append}
use lib.Seq.{take-suc, set_at, length-take-le}
use Rattle.eif.specs.Table.{in_table}
use Rattle.eif.specs.Numbers.{place_count}
use Rattle.octets.specs.Logic.{choose}
use Rattle.octets.proofs.Lists.{sum_append}
use Rattle.eif.specs.Rules.{boot_type}
use Rattle.eif.specs.Reading.{ramdisk_in, blank_section, ramdisks_in, section_kind}
use Rattle.eif.specs.Stream.{later_ramdisk, keeps, kept}
use Rattle.eif.specs.declared.Section.{Section}
use Rattle.eif.specs.declared.Stream.{Stream}
use Rattle.eif.specs.declared.Stream.TheVariants.{Whole, Boot, App}
use Rattle.stream_laws.proofs.Sections.{kept_append, kept_fits}

-- ---- by type

module _ (kind before : ℕ) where
  module _ (stream : Stream) where
    pub kept_whole : boot_type kind ≡ true → stream ≡ Whole → true ≡ keeps stream kind before
    unfolding keeps
    kept_whole b e = rw e (sym b)

    pub kept_boot : boot_type kind ≡ true → stream ≡ Boot → not (later_ramdisk kind before) ≡ keeps stream kind before
    unfolding keeps
    kept_boot b e = rw (e, b) refl

    pub kept_app : stream ≡ App → later_ramdisk kind before ≡ keeps stream kind before
    unfolding keeps
    kept_app e = rw e refl

-- ---- one place after the other

ramdisks_snoc : (k : List Section) (x : Section) → ramdisks_in section_kind (k ++ (x ∷ [])) ≡ ramdisks_in section_kind k + ramdisk_in x.kind
ramdisks_snoc k x = let e = sum_append (λ y. ramdisk_in y.kind) k (x ∷ []) in omega arith

module _ (stream : Stream) (l : List Section) where
  -- what is kept of the first i places
  abbrev pub kept_so_far : ℕ → List Section
  kept_so_far i = kept stream section_kind 0 (take i l)

  -- and the ramdisks among them
  abbrev pub ramdisks_of : ℕ → ℕ
  ramdisks_of i = ramdisks_in section_kind (take i l)

  module _ (i : ℕ) (h : i < length l) where
    abbrev this : Section
    this = get_or l i blank_section

    one_kept : (before : ℕ) → kept stream section_kind before (this ∷ []) ≡ choose (keeps stream this.kind before) (this ∷ []) []
    unfolding kept
    one_kept before = refl

    kept_next : kept_so_far (i + 1) ≡ kept_so_far i ++ choose (keeps stream this.kind (ramdisks_of i)) (this ∷ []) []
    kept_next =
        ap (λ (n : ℕ). kept stream section_kind 0 (take n l)) (add-one i)
        ∙ ap (kept stream section_kind 0) (take-suc l i blank_section h) ∙ kept_append stream section_kind 0 (take i l) (this ∷ [])
        ∙ ap (λ (n : ℕ). kept_so_far i ++ kept stream section_kind n (this ∷ [])) (zero-add (ramdisks_of i))
        ∙ ap (λ (k : List Section). kept_so_far i ++ k) (one_kept (ramdisks_of i))

    pub kept_more : keeps stream this.kind (ramdisks_of i) ≡ true → kept_so_far (i + 1) ≡ kept_so_far i ++ (this ∷ [])
    kept_more e = kept_next ∙ ap (λ (b : Bool). kept_so_far i ++ choose b (this ∷ []) []) e

    pub kept_same : keeps stream this.kind (ramdisks_of i) ≡ false → kept_so_far (i + 1) ≡ kept_so_far i
    kept_same e = kept_next ∙ ap (λ (b : Bool). kept_so_far i ++ choose b (this ∷ []) []) e ∙ append-nil (kept_so_far i)

    pub ramdisks_next : ramdisks_of (i + 1) ≡ ramdisks_of i + ramdisk_in this.kind
    ramdisks_next =
        ap (λ (n : ℕ). ramdisks_in section_kind (take n l)) (add-one i)
        ∙ ap (ramdisks_in section_kind) (take-suc l i blank_section h) ∙ ramdisks_snoc (take i l) this

  pub kept_few : (i : ℕ) → i ≤ length l → length (kept_so_far i) ≤ i
  kept_few i h = let f = kept_fits stream section_kind 0 (take i l) in let n = length-take-le i l h in omega arith

-- a section is stored behind those that are listed
pub table_next : (k : List Section) (x : Section) (n : ℕ) → n ≡ length k → n < place_count → set (in_table blank_section k) n x ≡ in_table blank_section (k ++ (x ∷ []))
unfolding in_table
table_next k x n e h =
    let m : place_count - length k ≡ suc (place_count - suc n) = omega arith in
    let z : place_count - length (k ++ (x ∷ [])) ≡ place_count - suc n = simp length-append (omega arith) in
    ap (λ (j : ℕ). set (k ++ replicate j blank_section) n x) m ∙ set_at k blank_section (replicate (place_count - suc n) blank_section) x n (sym e)
    ∙ sym (append_assoc k (x ∷ []) (replicate (place_count - suc n) blank_section)) ∙ ap (λ (j : ℕ). (k ++ (x ∷ [])) ++ replicate j blank_section) (sym z)
