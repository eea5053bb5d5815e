-- The rules on one record of a roll's rest, each from plain facts on what was read at the record's start.
-- Assumes nothing.
use Prim.Native.Nat.{ℕ, suc, ◌+◌, ◌-◌, ◌<◌, ◌≤◌}
use mathlib.Core.Path.{◌≡◌, refl, sym, ap, ◌∙◌}
use mathlib.Core.List.{List}
use mathlib.Core.Logic.{⊎_elim}
use native.Mathlib.Omega.{arith}
use borrow.Author.Tests.{lt-ltb, le-ltb, le-leb, lt-leb, eq-eqb, ne_eqb}
use lib.ListN.{length, take, get_or}
use lib.Seq.{length-take-le}
use Rattle.octets.specs.Bytes.{le_field}
use Rattle.eif.specs.Numbers.{place_count, ramdisk, wrong_count, record_cut, record_type_wrong}
use Rattle.eif.specs.Table.{filled}
use Rattle.eif.specs.Rules.{order_fault, boot_missing}
use Rattle.eif.specs.Roll.{record_head_size, record_type_at, flags_record_size, end_type, record_at, record_size, record_kind, listed_at, head_fault, body_fault}
use Rattle.octets.proofs.Logic.{equal_or_not}
use Rattle.eif_lemmas.proofs.Table.{filled_at, length_filled}
use Rattle.roll_reader.specs.Walk.{record_fault}
use Rattle.type_judge.specs.Kinds.{listed_kind}
use Rattle.type_judge.proofs.Parts.{order_part, boot_missing_part}

-- ---- a table of what the records before hold

module _ (s kinds : List ℕ) (n : ℕ) (few : n ≤ place_count) (kept : kinds ≡ filled (record_kind s) 0 place_count n) where
  within : n ≤ length kinds
  within = omega (arith, ap length kept ∙ length_filled (record_kind s) 0 place_count n)

  -- the length of the part that is used
  pub kept_length : n ≡ length (take n kinds)
  kept_length = sym (length-take-le n kinds within)

  kept_at : (j : ℕ) → j < n → get_or kinds j 0 ≡ record_kind s j
  kept_at j h = ap (λ (l : List ℕ). get_or l j 0) kept ∙ filled_at (record_kind s) 0 0 place_count n j h few

  pub kept_order : (kind : ℕ) → order_fault (listed_kind (take n kinds)) kind (length (take n kinds)) ≡ order_fault (record_kind s) kind n
  kept_order = order_part kinds (record_kind s) n within kept_at

  pub kept_missing : boot_missing (listed_kind (take n kinds)) (length (take n kinds)) ≡ boot_missing (record_kind s) n
  kept_missing = boot_missing_part kinds (record_kind s) n within kept_at

-- ---- a record's head

module _ (s : List ℕ) (i at : ℕ) (here : at ≡ record_at s i) where
  pub kind_here : (kind : ℕ) → kind ≡ le_field 2 (at + record_type_at) s → kind ≡ record_kind s i
  kind_here kind e = e ∙ ap (λ (p : ℕ). le_field 2 (p + record_type_at) s) here

  pub size_here : (size : ℕ) → size ≡ le_field 8 at s → size ≡ record_size s i
  size_here size e = e ∙ ap (λ (p : ℕ). le_field 8 p s) here

  pub record_next : (size : ℕ) → size ≡ le_field 8 at s → at + record_head_size + size ≡ record_at s (suc i)
  unfolding record_at
  record_next size e = omega (arith, size_here size e)

  pub listed_here : (kind size : ℕ) → kind ≡ le_field 2 (at + record_type_at) s → size ≡ le_field 8 at s
      → record { kind = kind; position = record { 0 = flags_record_size + at + record_head_size }; length = record { 0 = size } } ≡ listed_at s i
  listed_here kind size k e = rw (kind_here kind k, size_here size e, here) refl

  pub head_cut : length s < at + record_head_size → record_cut ≡ head_fault s i
  unfolding head_fault
  head_cut h =
      let g : length s < record_at s i + record_head_size = omega arith in
      simp (lt-ltb _ _ g)

  module _ (whole : at + record_head_size ≤ length s) (kind : ℕ) (kind-is : kind ≡ le_field 2 (at + record_type_at) s) where
    head_whole : record_at s i + record_head_size ≤ length s
    head_whole = omega arith

    pub head_type : ramdisk < kind → record_type_wrong ≡ head_fault s i
    unfolding head_fault
    head_type h =
        let g : ramdisk < record_kind s i = omega (arith, kind_here kind kind-is) in
        simp (le-ltb _ _ head_whole, lt-ltb _ _ g)

    module _ (known : kind ≤ ramdisk) where
      head_known : record_kind s i ≤ ramdisk
      head_known = omega (arith, kind_here kind kind-is)

      pub head_other : (kind ≡ end_type → ⊥) → 0 ≡ head_fault s i
      unfolding head_fault
      head_other h =
          let g : record_kind s i ≡ end_type → ⊥ = λ e. h (kind_here kind kind-is ∙ e) in
          simp (le-ltb _ _ head_whole, le-ltb _ _ head_known, ne_eqb _ _ g)

      module _ (end : kind ≡ end_type) (size : ℕ) (size_is : size ≡ le_field 8 at s) where
        head_end : record_kind s i ≡ end_type
        head_end = sym (kind_here kind kind-is) ∙ end

        pub end_size : (size ≡ 0 → ⊥) → record_type_wrong ≡ head_fault s i
        unfolding head_fault
        end_size h =
            let g : record_size s i ≡ 0 → ⊥ = λ e. h (size_here size size_is ∙ e) in
            simp (le-ltb _ _ head_whole, le-ltb _ _ head_known, eq-eqb _ _ head_end, ne_eqb _ _ g)

        pub end_whole : size ≡ 0 → 0 ≡ head_fault s i
        unfolding head_fault
        end_whole h =
            let g : record_size s i ≡ 0 = sym (size_here size size_is) ∙ h in
            simp (le-ltb _ _ head_whole, le-ltb _ _ head_known, eq-eqb _ _ head_end, eq-eqb _ _ g)

-- ---- what follows the head

module _ (s : List ℕ) (i : ℕ) where
  pub body_count : i ≡ place_count → wrong_count ≡ body_fault s i
  unfolding body_fault
  body_count h =
      let g : place_count ≤ i = omega arith in
      simp (le-leb _ _ g)

  module _ (at : ℕ) (here : at ≡ record_at s i) (whole : at + record_head_size ≤ length s) (free : i < place_count) (size : ℕ) (size_is : size ≡ le_field 8 at s) where
    next : at + record_head_size + size ≡ record_at s (suc i)
    next = record_next s i at here size size_is

    pub body_cut : length s - at - record_head_size < size → record_cut ≡ body_fault s i
    unfolding body_fault
    body_cut h =
        let g : length s < record_at s (suc i) = omega (arith, next) in
        simp (lt-leb _ _ free, lt-ltb _ _ g)

    pub body_order : size ≤ length s - at - record_head_size → order_fault (record_kind s) (record_kind s i) i ≡ body_fault s i
    unfolding body_fault
    body_order h =
        let g : record_at s (suc i) ≤ length s = omega (arith, next) in
        simp (lt-leb _ _ free, le-ltb _ _ g)

-- ---- both

module _ (s : List ℕ) (i : ℕ) where
  pub by_head : (k : ℕ) → (k ≡ 0 → ⊥) → k ≡ head_fault s i → k ≡ record_fault s i
  unfolding record_fault
  by_head k h e = rw (← e) (simp (ne_eqb k 0 h))

  module _ (head : 0 ≡ head_fault s i) where
    pub by_end : record_kind s i ≡ end_type → 0 ≡ record_fault s i
    unfolding record_fault
    by_end e = rw (← head) (simp (eq-eqb _ _ e))

    pub by_body : (record_kind s i ≡ end_type → ⊥) → body_fault s i ≡ record_fault s i
    unfolding record_fault
    by_body h = rw (← head) (simp (ne_eqb _ _ h))

  pub head_clean : record_fault s i ≡ 0 → head_fault s i ≡ 0
  head_clean e =
      ⊎_elim
      (λ z. z)
      (λ h. by_head (head_fault s i) h refl ∙ e)
      (equal_or_not (head_fault s i) 0)
