-- Writing what was read of a plain image gives the image again.
-- Assumes nothing.
use Prim.Native.Nat.{ℕ, zero, suc, ◌+◌, ◌<◌, ◌≤◌, ◌*◌}
use mathlib.Core.Path.{◌≡◌, refl, sym, ap, ap₂, ◌∙◌}
use mathlib.Core.List.{List, ◌++◌, append_assoc}
use native.Mathlib.Omega.{arith}
use lib.ListN.{length, take, drop, get_or, take-append-drop, get_or-map}
use lib.Seq.{take_at, drop-drop, drop-length}
use Rattle.eif.specs.Table.{join_from}
use Rattle.octets.specs.Bytes.{AreBytes, be_bytes, field, be_bytes_each}
use Rattle.crc32.specs.Crc.{crc32}
use Rattle.eif.specs.Numbers.{place_count}
use Rattle.eif.specs.Layout.{magic_number, header_size, section_header_size, checksum_at, view_of, header_flags, default_mem, default_cpus, checksum, version_of, count_of, offset_at, size_at, start_at, kind_at, flags_at, offsets_at, reserved_after_at, sizes_at, entry_size, magic_at, version_at, header_flags_at, default_mem_at, default_cpus_at, reserved_at, count_at, entry_at}
use Rattle.eif.specs.Reading.{checksum_of, verdict_of, section_at, blank_section, sections_of, reading_of, data_of, own_data}
use Rattle.eif.specs.Plan.{place_at, planned_kind, planned_size, packed_at, piece_at, fixed_fields, table_bytes, header_bytes, section_header, section_bytes, body_bytes, plain_image, Plain, place_of, plan_of, data_joined}
use Rattle.eif.specs.declared.Place.{Place}
use Rattle.eif.specs.declared.Plan.{Plan}
use Rattle.eif.specs.declared.Verdict.TheVariants.{Accepted}
use Rattle.eif_lemmas.proofs.Table.{join_same, join_split}
use Rattle.eif_lemmas.proofs.View.{SoundHeader}
use Rattle.eif_lemmas.proofs.Accept.{passes, section_is, file_ends, sound_at, length_data}
use Rattle.plain_laws.proofs.Shape.{packed_suc, packed_zero, length_header}
use Rattle.plain_laws.proofs.Split.{split, table_split, filled_full}
use Rattle.plain_laws.proofs.Joined.{piece_is}

regroup3 : (a b c r : List ℕ) → a ++ (b ++ (c ++ r)) ≡ (a ++ (b ++ c)) ++ r
regroup3 a b c r = simp append_assoc

regroup4 : (a b c d r : List ℕ) → a ++ (b ++ (c ++ (d ++ r))) ≡ (a ++ (b ++ (c ++ d))) ++ r
regroup4 a b c d r = simp append_assoc

regroup7 : (a b c d e f g r : List ℕ) → a ++ (b ++ (c ++ (d ++ (e ++ (f ++ (g ++ r)))))) ≡ (a ++ (b ++ (c ++ (d ++ (e ++ (f ++ g)))))) ++ r
regroup7 a b c d e f g r = simp append_assoc

-- ---- the plan of an accepted image

module _ (s : List ℕ) where
  abbrev pub plan : Plan
  plan = plan_of (reading_of (view_of s) Accepted)

  abbrev pub given : List ℕ
  given = join_from (own_data s) (count_of s) 0

  module _ (ok : verdict_of s ≡ Accepted) where
    abbrev pub sound_head : SoundHeader (view_of s)
    sound_head = (passes s ok).head

    pub place_is : (i : ℕ) → i < count_of s → place_at plan.places i ≡ place_of (section_at s i)
    place_is i h = get_or-map place_of (sections_of s) i blank_section ∙ ap place_of (section_is s ok i h)

    pub kind_is : (i : ℕ) → i < count_of s → planned_kind plan.places i ≡ kind_at s i
    kind_is i h = ap (λ (x : Place). x.kind) (place_is i h)

    pub size_is : (i : ℕ) → i < count_of s → planned_size plan.places i ≡ size_at s i
    size_is i h = ap (λ (x : Place). x.length.0) (place_is i h)

    -- packed, a section starts where it does in the image
    pub packed_is : (i : ℕ) → i ≤ count_of s → packed_at plan.places i ≡ start_at s i
    packed_is zero h = packed_zero (planned_size plan.places)
    packed_is (suc i) h =
        packed_suc (planned_size plan.places) i
        ∙ ap₂ (λ (x y : ℕ). x + section_header_size + y) (packed_is i (omega arith) ∙ sym (sound_at s ok i h).starts) (size_is i h)

    pub length_own : (i : ℕ) → i < count_of s → length (own_data s i) ≡ planned_size plan.places i
    length_own i h = length_data s (section_at s i) (sound_at s ok i h).ends ∙ sym (size_is i h)

    pub piece_given : (i : ℕ) → i < count_of s → piece_at plan.places given i ≡ own_data s i
    piece_given = piece_is plan.places (count_of s) (own_data s) length_own

    -- the sections' data joined is that
    pub joined_is : data_joined s (reading_of (view_of s) Accepted) ≡ given
    joined_is =
        join_same (λ i. data_of s (get_or (sections_of s) i blank_section)) (own_data s) (count_of s) 0
        (λ i h. ap (data_of s) (section_is s ok i (omega arith)))

-- ---- a plain image, taken apart from its start

module _ (s : List ℕ) (w : AreBytes s) (pl : Plain s) where
  abbrev ok : verdict_of s ≡ Accepted
  ok = pl.accepted

  abbrev p : Plan
  p = plan s

  abbrev l : List Place
  l = (plan s).places

  abbrev d : List ℕ
  d = given s

  whole : header_size ≤ length s
  whole = (sound_head s ok).whole

  few : count_of s ≤ place_count
  few = (sound_head s ok).fields.few

  abbrev b1 : List ℕ
  b1 = be_bytes 4 magic_number

  abbrev b2 : List ℕ
  b2 = be_bytes 2 (version_of s)

  abbrev b3 : List ℕ
  b3 = be_bytes 2 (header_flags (view_of s))

  abbrev b4 : List ℕ
  b4 = be_bytes 8 (default_mem (view_of s))

  abbrev b5 : List ℕ
  b5 = be_bytes 8 (default_cpus (view_of s))

  abbrev b6 : List ℕ
  b6 = be_bytes 2 0

  abbrev b7 : List ℕ
  b7 = be_bytes 2 (count_of s)

  fixed_split : s ≡ fixed_fields p ++ drop offsets_at s
  unfolding fixed_fields
  fixed_split =
      let q = whole in
      split s w 4 magic_number magic_at (sound_head s ok).magic (omega arith)
      ∙ ap (λ (r : List ℕ). b1 ++ r) (split s w 2 (version_of s) version_at refl (omega arith)
      ∙ ap (λ (r : List ℕ). b2 ++ r) (split s w 2 (header_flags (view_of s)) header_flags_at refl (omega arith)
      ∙ ap (λ (r : List ℕ). b3 ++ r) (split s w 8 (default_mem (view_of s)) default_mem_at refl (omega arith)
      ∙ ap (λ (r : List ℕ). b4 ++ r) (split s w 8 (default_cpus (view_of s)) default_cpus_at refl (omega arith)
      ∙ ap (λ (r : List ℕ). b5 ++ r) (split s w 2 0 reserved_at pl.unused.reserved_zero (omega arith)
      ∙ ap (λ (r : List ℕ). b6 ++ r) (split s w 2 (count_of s) count_at refl (omega arith)))))))
      ∙ regroup7 b1 b2 b3 b4 b5 b6 b7 (drop offsets_at s)

  -- a table of the image is that of its plan
  of_plan : (f : ℕ → ℕ) (at : ℕ) → at + entry_size * place_count ≤ length s → ((i : ℕ) → i < count_of s → field entry_size (entry_at at i) s ≡ f i)
      → ((i : ℕ) → count_of s ≤ i → i < place_count → field entry_size (entry_at at i) s ≡ 0)
      → drop at s ≡ table_bytes f (count_of s) ++ drop (at + entry_size * place_count) s
  unfolding table_bytes
  of_plan f at inside same unused =
      table_split s w place_count at (λ i. field entry_size (entry_at at i) s) (λ i h. refl) inside
      ∙ ap (λ (t : List ℕ). be_bytes_each entry_size t ++ drop (at + entry_size * place_count) s)
      (filled_full f (λ i. field entry_size (entry_at at i) s) place_count (count_of s) few same unused)

  offsets_split : drop offsets_at s ≡ table_bytes (packed_at l) (count_of s) ++ drop sizes_at s
  offsets_split =
      let q = whole in
      of_plan (packed_at l) offsets_at (omega arith) (λ i h. (sound_at s ok i h).starts ∙ sym (packed_is s ok i (omega arith))) pl.unused.unused_offset

  sizes_split : drop sizes_at s ≡ table_bytes (planned_size l) (count_of s) ++ drop reserved_after_at s
  sizes_split = let q = whole in of_plan (planned_size l) sizes_at (omega arith) (λ i h. sym (size_is s ok i h)) pl.unused.unused_size

  header_split : s ≡ header_bytes p ++ drop checksum_at s
  unfolding header_bytes
  header_split =
      let q = whole in
      fixed_split
      ∙ ap (λ (r : List ℕ). fixed_fields p ++ r) (offsets_split
      ∙ ap (λ (r : List ℕ). table_bytes (packed_at l) (count_of s) ++ r) (sizes_split
      ∙ ap (λ (r : List ℕ). table_bytes (planned_size l) (count_of s) ++ r) (split s w 4 0 reserved_after_at pl.unused.reserved_after_zero (omega arith))))
      ∙ regroup4 (fixed_fields p) (table_bytes (packed_at l) (count_of s)) (table_bytes (planned_size l) (count_of s)) (be_bytes 4 0) (drop checksum_at s)

  section_split : (i : ℕ) → i < count_of s → drop (start_at s i) s ≡ section_header (place_at l i) ++ (piece_at l d i ++ drop (start_at s (suc i)) s)
  unfolding section_header
  section_split i h =
      let o : ℕ = offset_at s i in
      let q = sound_at s ok i h in
      let e = q.ends in
      let x = place_is s ok i h in
      let z12 : o + 2 + 2 + 8 ≡ o + section_header_size = omega arith in
      let z4 : o + 2 + 2 ≡ o + 4 = omega arith in
      ap (λ (n : ℕ). drop n s) (sym (sound_at s ok i h).starts)
      ∙ split s w 2 (kind_at s i) o refl (omega arith)
      ∙ ap (λ (r : List ℕ). be_bytes 2 (kind_at s i) ++ r) (split s w 2 (flags_at s i) (o + 2) refl (omega arith)
      ∙ ap (λ (r : List ℕ). be_bytes 2 (flags_at s i) ++ r)
      (split s w 8 (size_at s i) (o + 2 + 2) (ap (λ (n : ℕ). field 8 n s) z4 ∙ q.same) (omega arith)
      ∙ ap (λ (n : ℕ). be_bytes 8 (size_at s i) ++ drop n s) z12
      ∙ ap (λ (r : List ℕ). be_bytes 8 (size_at s i) ++ r) (sym (take-append-drop (size_at s i) (drop (o + section_header_size) s)))))
      ∙ regroup3 (be_bytes 2 (kind_at s i)) (be_bytes 2 (flags_at s i)) (be_bytes 8 (size_at s i)) (own_data s i ++ drop (size_at s i) (drop (o + section_header_size) s))
      ∙ ap₂ (λ (y : Place) (r : List ℕ). (be_bytes 2 y.kind ++ (be_bytes 2 y.flags ++ be_bytes 8 y.length.0)) ++ r) (sym x)
      (ap₂ (λ (y r : List ℕ). y ++ r) (sym (piece_given s ok i h)) (drop-drop (size_at s i) (o + section_header_size) s))

  sections_split : drop header_size s ≡ body_bytes p d
  sections_split =
      join_split (section_bytes l d) (start_at s) (count_of s) s
      (λ i h. section_split i h ∙ sym (append_assoc (section_header (place_at l i)) (piece_at l d i) (drop (start_at s (suc i)) s)))
      (ap (λ (n : ℕ). drop n s) (sym (file_ends s ok)) ∙ drop-length s) (count_of s) 0 (omega arith)

  pub plain_again : plain_image p d ≡ s
  unfolding plain_image checksum_of
  plain_again =
      let q = whole in
      let b = sections_split in
      let h : take checksum_at s ≡ header_bytes p = ap (take checksum_at) header_split ∙ take_at (header_bytes p) (drop checksum_at s) checksum_at (length_header p) in
      let c : checksum (view_of s) ≡ crc32 (header_bytes p ++ body_bytes p d) = (passes s ok).sum ∙ ap₂ (λ (x y : List ℕ). crc32 (x ++ y)) h b in
      sym (header_split
      ∙ ap (λ (r : List ℕ). header_bytes p ++ r)
      (split s w 4 (crc32 (header_bytes p ++ body_bytes p d)) checksum_at c (omega arith) ∙ ap (λ (r : List ℕ). be_bytes 4 (crc32 (header_bytes p ++ body_bytes p d)) ++ r) b))
