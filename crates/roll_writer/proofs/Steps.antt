-- The roll of a list of sections: one section's record, the list one section further, and that behind the flags record it is the
-- roll of the sections' records.
-- Assumes nothing.
use Prim.Native.Nat.{ℕ, suc, ◌+◌, ◌*◌, ◌<◌, ◌≤◌}
use mathlib.Core.Path.{◌≡◌, refl, sym, ap, ◌∙◌}
use mathlib.Core.List.{List, [], ◌∷◌, ◌++◌, map, append_assoc}
use mathlib.Core.Bool.{Bool, true, false}
use native.Mathlib.Omega.{arith}
use native.Mathlib.Nat.{zero-add}
use lib.ListN.{length, drop, get_or, length-append, drop_of_length-le}
use lib.Seq.{drop-cons}
use Rattle.octets.specs.Lists.{joined_by}
use Rattle.octets.specs.Over.{over}
use Rattle.octets.proofs.Over.{over_joined}
use Rattle.eif.specs.Numbers.{size_limit, place_count}
use Rattle.octets.specs.Logic.{choose}
use Rattle.eif.specs.Reading.{blank_section}
use Rattle.eif.specs.Rules.{boot_type}
use Rattle.eif.specs.Roll.{record_head_size, flags_record_size, head_of, flags_record, end_type, roll_of, measured_in, record_for, records_by}
use Rattle.eif.specs.declared.Section.{Section}
use Rattle.eif_lemmas.proofs.Head.{length_head}
use Rattle.eif_lemmas.proofs.Flags.{length_flags}
use Rattle.roll_writer.specs.Write.{roll_part, roll_for, sections_roll}
use Rattle.octets.proofs.Logic.{choose_holds}

-- no roll of data no longer than an image is longer
abbrev pub size_bound : ℕ
size_bound = flags_record_size + (place_count * (record_head_size + size_limit) + record_head_size)

module _ (held : Section → List ℕ) where
  -- ---- one section

  module _ (x : Section) where
    abbrev head : List ℕ
    head = head_of (length (held x)) x.kind

    length_record : length (head ++ held x) ≡ record_head_size + length (held x)
    length_record = simp (length-append, length_head)

    module _ (e : boot_type x.kind ≡ true) where
      pub size_in_holds : length (roll_part held x) ≡ record_head_size + length (held x)
      unfolding roll_part
      size_in_holds = rw e length_record

      -- its head and then its data
      pub part_over : (d : List ℕ) (at : ℕ)
          → over (over d at (head_of (length (held x)) x.kind)) (at + record_head_size) (held x) ≡ over d at (roll_part held x)
      unfolding roll_part
      part_over d at = rw e (over_joined d at head (held x) refl refl (ap (λ (n : ℕ). at + n) (length_head (length (held x)) x.kind)))

    module _ (e : boot_type x.kind ≡ false) where
      pub size_out : length (roll_part held x) ≡ 0
      unfolding roll_part
      size_out = rw e

      pub part_none : (d : List ℕ) (at : ℕ) → d ≡ over d at (roll_part held x)
      unfolding roll_part over
      part_none d at = rw e

  -- ---- the list from section i on

  module _ (l : List Section) (i : ℕ) where
    module _ (h : i < length l) where
      roll_step : roll_for held (drop i l) ≡ roll_part held (get_or l i blank_section) ++ roll_for held (drop (suc i) l)
      unfolding roll_for
      roll_step = rw (drop-cons l i blank_section h) (append_assoc (roll_part held (get_or l i blank_section)) _ _)

      pub size_step : length (roll_for held (drop i l)) ≡ length (roll_part held (get_or l i blank_section)) + length (roll_for held (drop (suc i) l))
      size_step = ap length roll_step ∙ length-append (roll_part held (get_or l i blank_section)) (roll_for held (drop (suc i) l))

      -- the record of section i written, and then the rest
      pub roll_over : (d : List ℕ) (at : ℕ)
          → over (over d at (roll_part held (get_or l i blank_section))) (at + length (roll_part held (get_or l i blank_section))) (roll_for held (drop (suc i) l))
          ≡ over d at (roll_for held (drop i l))
      roll_over d at =
          over_joined d at (roll_part held (get_or l i blank_section)) (roll_for held (drop (suc i) l)) refl refl refl ∙ ap (over d at) (sym roll_step)

    -- past the last section: the end record
    module _ (h : length l ≤ i) where
      pub roll_end : roll_for held (drop i l) ≡ head_of 0 end_type
      unfolding roll_for
      roll_end = rw (drop_of_length-le l h)

      pub size_end : length (roll_for held (drop i l)) ≡ record_head_size
      size_end = ap length roll_end ∙ length_head 0 end_type

  -- ---- the whole list

  records_at : (x : Section) (xs : List Section) (b : Bool) → roll_for held xs ≡ roll_of (records_by held xs)
      → (choose b (head_of (length (held x)) x.kind ++ held x) [] ++ joined_by (roll_part held) xs) ++ head_of 0 end_type
      ≡ roll_of (map (record_for held) (choose b (x ∷ measured_in xs) (measured_in xs)))
  unfolding roll_of roll_for
  records_at x xs false e = e
  records_at x xs true e = simp (append_assoc, e)

  -- it is the roll of the sections' records
  pub roll_records : (l : List Section) → roll_for held l ≡ roll_of (records_by held l)
  unfolding roll_for measured_in roll_part roll_of
  roll_records [] = refl
  roll_records (x ∷ xs) = records_at x xs (boot_type x.kind) (roll_records xs)

  module _ (flags : ℕ) (l : List Section) where
    -- with flags
    pub sections_roll_holds : flags_record flags ++ roll_for held l ≡ sections_roll flags held l
    unfolding sections_roll
    sections_roll_holds = ap (λ (r : List ℕ). flags_record flags ++ r) (roll_records l)

    pub size_is : flags_record_size + length (roll_for held l) ≡ length (sections_roll flags held l)
    size_is =
        let n = length-append (flags_record flags) (roll_for held l) in
        let m = length_flags flags in
        let k = ap length sections_roll_holds in
        omega arith

    -- the flags record and then the rest, over a buffer
    pub roll_is : (d : List ℕ) → over (over d 0 (flags_record flags)) flags_record_size (roll_for held l) ≡ over d 0 (sections_roll flags held l)
    roll_is d =
        over_joined d 0 (flags_record flags) (roll_for held l) refl refl (zero-add (length (flags_record flags)) ∙ length_flags flags)
        ∙ ap (over d 0) sections_roll_holds

  -- ---- of data no longer than an image

  module _ (short : (x : Section) → length (held x) ≤ size_limit) where
    part_short : (x : Section) → length (roll_part held x) ≤ record_head_size + size_limit
    unfolding roll_part
    part_short x =
        let n = length_record x in
        let h = short x in
        choose_holds (λ (b : List ℕ). length b ≤ record_head_size + size_limit) (boot_type x.kind) (head x ++ held x) [] (λ _. omega arith) (λ _. omega arith)

    parts_short : (l : List Section) → length (joined_by (roll_part held) l) ≤ length l * (record_head_size + size_limit)
    parts_short [] = omega arith
    parts_short (x ∷ xs) = omega (arith, length-append (roll_part held x) (joined_by (roll_part held) xs), part_short x, parts_short xs)

    pub roll_short : (flags : ℕ) (l : List Section) → length l ≡ place_count → length (sections_roll flags held l) ≤ size_bound
    unfolding roll_for
    roll_short flags l n =
        let a = size_is flags l in
        let b = length-append (joined_by (roll_part held) l) (head_of 0 end_type) in
        let c = length_head 0 end_type in
        let d = parts_short l in
        omega arith
