-- What reading finds in the plain image of a plan, field by field.
-- Assumes nothing.
use Prim.Native.Nat.{ℕ, zero, suc, ◌+◌, ◌*◌, ◌^◌, ◌<◌, ◌≤◌}
use mathlib.Core.Path.{◌≡◌, refl, sym, ap, ap₂, ◌∙◌}
use mathlib.Core.List.{List, ◌++◌, append_assoc}
use native.Mathlib.Omega.{arith}
use lib.ListN.{length, take, drop, get_or, length-append}
use lib.Seq.{take_at, drop_at, drop-drop}
use Rattle.octets.specs.Bytes.{AreBytes, be_bytes, field}
use Rattle.octets.proofs.Value.{field_at, field_past, field_drop, bytes_append}
use Rattle.crc32.specs.Crc.{crc32}
use Rattle.crc32.proofs.Bounds.{crc32_lt}
use Rattle.eif.specs.Numbers.{size_limit, place_count}
use Rattle.eif.specs.Layout.{magic_number, magic_at, version_at, header_flags_at, default_mem_at, default_cpus_at, reserved_at, count_at, offsets_at, sizes_at, reserved_after_at, entry_size, entry_at, view_of, magic, header_flags, default_mem, default_cpus, reserved, reserved_after, checksum, version_of, count_of, offset_at, size_at, end_at, start_at, kind_at, flags_at, own_size_at, checksum_at, section_flags_at, section_header_size, section_size_at}
use Rattle.eif.specs.Reading.{checksum_of}
use Rattle.eif.specs.Plan.{place_at, planned_kind, planned_size, packed_at, piece_at, fixed_fields, table_of, table_bytes, header_bytes, section_header, body_bytes, plain_image}
use Rattle.eif.specs.declared.Plan.{Plan}
use Rattle.eif.specs.declared.Place.{Place}
use Rattle.eif_lemmas.proofs.Table.{length_filled, filled_at, all_filled}
use Rattle.plain_laws.proofs.Fields.{skip, here, last, entry_at_holds}
use Rattle.plain_laws.proofs.Shape.{packed_le, packed_suc, packed_zero, length_fixed, length_table, length_header, bytes_header, bytes_sections, length_piece, past_header, before_sum, at_section, length_section_header}
use Rattle.plain_laws.proofs.PlanRules.{Planned, allowed_small}

-- ---- the fixed fields

module _ (p : Plan) (r : List ℕ) where
  abbrev t : List ℕ
  t = fixed_fields p ++ r

  -- the fields from each on
  abbrev from_count : List ℕ
  from_count = be_bytes 2 p.count

  abbrev from_reserved : List ℕ
  from_reserved = be_bytes 2 0 ++ from_count

  abbrev from_default_cpus : List ℕ
  from_default_cpus = be_bytes 8 p.default_cpus ++ from_reserved

  abbrev from_default_mem : List ℕ
  from_default_mem = be_bytes 8 p.default_mem ++ from_default_cpus

  abbrev from_flags : List ℕ
  from_flags = be_bytes 2 p.flags ++ from_default_mem

  abbrev from_version : List ℕ
  from_version = be_bytes 2 p.version ++ from_flags

  -- one field further on, each time
  past_magic : (w k : ℕ) → field w (4 + k) t ≡ field w k (from_version ++ r)
  unfolding fixed_fields
  past_magic w k = skip w k 4 (be_bytes 4 magic_number) from_version r refl

  past_version : (w k : ℕ) → field w (2 + k) (from_version ++ r) ≡ field w k (from_flags ++ r)
  past_version w k = skip w k 2 (be_bytes 2 p.version) from_flags r refl

  past_flags : (w k : ℕ) → field w (2 + k) (from_flags ++ r) ≡ field w k (from_default_mem ++ r)
  past_flags w k = skip w k 2 (be_bytes 2 p.flags) from_default_mem r refl

  past_default_mem : (w k : ℕ) → field w (8 + k) (from_default_mem ++ r) ≡ field w k (from_default_cpus ++ r)
  past_default_mem w k = skip w k 8 (be_bytes 8 p.default_mem) from_default_cpus r refl

  past_default_cpus : (w k : ℕ) → field w (8 + k) (from_default_cpus ++ r) ≡ field w k (from_reserved ++ r)
  past_default_cpus w k = skip w k 8 (be_bytes 8 p.default_cpus) from_reserved r refl

  fixed_magic : field 4 magic_at t ≡ magic_number
  unfolding fixed_fields
  fixed_magic = here 4 magic_number from_version r (omega arith)

  fixed_version : p.version < 2 ^ 16 → field 2 version_at t ≡ p.version
  fixed_version h = past_magic 2 0 ∙ here 2 p.version from_flags r h

  fixed_flags : p.flags < 2 ^ 16 → field 2 header_flags_at t ≡ p.flags
  fixed_flags h = past_magic 2 2 ∙ past_version 2 0 ∙ here 2 p.flags from_default_mem r h

  fixed_default_mem : p.default_mem < 2 ^ 64 → field 8 default_mem_at t ≡ p.default_mem
  fixed_default_mem h = past_magic 8 4 ∙ past_version 8 2 ∙ past_flags 8 0 ∙ here 8 p.default_mem from_default_cpus r h

  fixed_default_cpus : p.default_cpus < 2 ^ 64 → field 8 default_cpus_at t ≡ p.default_cpus
  fixed_default_cpus h = past_magic 8 12 ∙ past_version 8 10 ∙ past_flags 8 8 ∙ past_default_mem 8 0 ∙ here 8 p.default_cpus from_reserved r h

  fixed_reserved : field 2 reserved_at t ≡ 0
  fixed_reserved = past_magic 2 20 ∙ past_version 2 18 ∙ past_flags 2 16 ∙ past_default_mem 2 8 ∙ past_default_cpus 2 0 ∙ here 2 0 from_count r (omega arith)

  fixed_count : p.count < 2 ^ 16 → field 2 count_at t ≡ p.count
  fixed_count h =
      past_magic 2 22 ∙ past_version 2 20 ∙ past_flags 2 18 ∙ past_default_mem 2 10 ∙ past_default_cpus 2 2
      ∙ skip 2 0 2 (be_bytes 2 0) from_count r refl ∙ last 2 p.count r h

-- ---- a section's own header

module _ (x : Place) (r : List ℕ) where
  header_kind : x.kind < 2 ^ 16 → field 2 0 (section_header x ++ r) ≡ x.kind
  unfolding section_header
  header_kind h = here 2 x.kind (be_bytes 2 x.flags ++ be_bytes 8 x.length.0) r h

  header_flags_holds : x.flags < 2 ^ 16 → field 2 section_flags_at (section_header x ++ r) ≡ x.flags
  unfolding section_header
  header_flags_holds h = skip 2 0 2 (be_bytes 2 x.kind) (be_bytes 2 x.flags ++ be_bytes 8 x.length.0) r refl ∙ here 2 x.flags (be_bytes 8 x.length.0) r h

  header_size_holds : x.length.0 < 2 ^ 64 → field 8 section_size_at (section_header x ++ r) ≡ x.length.0
  unfolding section_header
  header_size_holds h =
      skip 8 2 2 (be_bytes 2 x.kind) (be_bytes 2 x.flags ++ be_bytes 8 x.length.0) r refl
      ∙ skip 8 0 2 (be_bytes 2 x.flags) (be_bytes 8 x.length.0) r refl ∙ last 8 x.length.0 r h

-- ---- the parts of the image

module _ (p : Plan) (d : List ℕ) where
  abbrev offsets : List ℕ
  offsets = table_bytes (packed_at p.places) p.count

  abbrev sizes : List ℕ
  sizes = table_bytes (planned_size p.places) p.count

  abbrev from_sum : List ℕ
  from_sum = be_bytes 4 (crc32 (header_bytes p ++ body_bytes p d)) ++ body_bytes p d

  abbrev after_sizes : List ℕ
  after_sizes = be_bytes 4 0 ++ from_sum

  abbrev after_fixed : List ℕ
  after_fixed = offsets ++ (sizes ++ after_sizes)

  parts : plain_image p d ≡ fixed_fields p ++ after_fixed
  unfolding plain_image header_bytes
  parts =
      append_assoc (fixed_fields p) (offsets ++ (sizes ++ be_bytes 4 0)) from_sum
      ∙ ap (λ (r : List ℕ). fixed_fields p ++ r)
      (append_assoc offsets (sizes ++ be_bytes 4 0) from_sum ∙ ap (λ (r : List ℕ). offsets ++ r) (append_assoc sizes (be_bytes 4 0) from_sum))

  length_to_sizes : length (fixed_fields p ++ offsets) ≡ sizes_at
  length_to_sizes =
      length-append (fixed_fields p) offsets ∙ ap₂ (λ (x y : ℕ). x + y) (length_fixed p) (length_table _ _)

  length_to_reserved : length ((fixed_fields p ++ offsets) ++ sizes) ≡ reserved_after_at
  length_to_reserved =
      length-append (fixed_fields p ++ offsets) sizes ∙ ap₂ (λ (x y : ℕ). x + y) length_to_sizes (length_table _ _)

-- ---- the image of an accepted plan

module _ (p : Plan) (d : List ℕ) (a : Planned p (length d)) where
  abbrev image : List ℕ
  image = plain_image p d

  abbrev l : List Place
  l = p.places

  abbrev rest : List ℕ
  rest = after_fixed p d

  -- no number of an accepted plan is above the limit
  pub packed_small : (i : ℕ) → i ≤ p.count → packed_at l i ≤ size_limit
  packed_small i h = let q = packed_le l i p.count h in let m = a.small in omega arith

  pub size_small : (i : ℕ) → i < p.count → planned_size l i ≤ size_limit
  size_small i h = let q = packed_small (suc i) h in let e = packed_suc (planned_size l) i in omega arith

  pub read_magic : magic (view_of image) ≡ magic_number
  read_magic = ap (field 4 magic_at) (parts p d) ∙ fixed_magic p rest

  pub read_version : version_of image ≡ p.version
  read_version = let h = a.fields.high in ap (field 2 version_at) (parts p d) ∙ fixed_version p rest (omega arith)

  pub read_flags : p.flags < 2 ^ 16 → header_flags (view_of image) ≡ p.flags
  read_flags h = ap (field 2 header_flags_at) (parts p d) ∙ fixed_flags p rest h

  pub read_default_mem : p.default_mem < 2 ^ 64 → default_mem (view_of image) ≡ p.default_mem
  read_default_mem h = ap (field 8 default_mem_at) (parts p d) ∙ fixed_default_mem p rest h

  pub read_default_cpus : p.default_cpus < 2 ^ 64 → default_cpus (view_of image) ≡ p.default_cpus
  read_default_cpus h = ap (field 8 default_cpus_at) (parts p d) ∙ fixed_default_cpus p rest h

  pub read_reserved : reserved (view_of image) ≡ 0
  read_reserved = ap (field 2 reserved_at) (parts p d) ∙ fixed_reserved p rest

  pub read_count : count_of image ≡ p.count
  read_count = let h = a.fields.few in ap (field 2 count_at) (parts p d) ∙ fixed_count p rest (omega arith)

  -- a table of numbers that fit in an entry, behind what comes before it in the image
  entry_of_holds : (f : ℕ → ℕ) (at : ℕ) (front after : List ℕ) → image ≡ front ++ (table_bytes f p.count ++ after) → length front ≡ at
      → ((j : ℕ) → j < p.count → f j < 256 ^ entry_size) → (i : ℕ) → i < place_count → field entry_size (entry_at at i) image ≡ get_or (table_of f p.count) i 0
  unfolding table_bytes
  entry_of_holds f at front after e z small i h =
      let n : length (table_of f p.count) ≡ place_count = length_filled f 0 place_count p.count in
      ap (field entry_size (entry_at at i)) e
      ∙ field_past entry_size (entry_size * i) at front (table_bytes f p.count ++ after) z
      ∙ entry_at_holds i (table_of f p.count) after (omega arith) (all_filled (λ n. n < 256 ^ entry_size) f 0 place_count p.count (omega arith) small)

  pub offset_entry_holds : (i : ℕ) → i < place_count → offset_at image i ≡ get_or (table_of (packed_at l) p.count) i 0
  offset_entry_holds =
      entry_of_holds (packed_at l) offsets_at (fixed_fields p) (sizes p d ++ after_sizes p d) (parts p d) (length_fixed p)
      (λ j q. let m = packed_small j (omega arith) in omega arith)

  pub read_offset : (i : ℕ) → i < p.count → offset_at image i ≡ packed_at l i
  read_offset i h = let f = a.fields.few in offset_entry_holds i (omega arith) ∙ filled_at (packed_at l) 0 0 place_count p.count i h f

  pub size_entry : (i : ℕ) → i < place_count → size_at image i ≡ get_or (table_of (planned_size l) p.count) i 0
  size_entry =
      entry_of_holds (planned_size l) sizes_at (fixed_fields p ++ offsets p d) (after_sizes p d)
      (parts p d ∙ sym (append_assoc (fixed_fields p) (offsets p d) (sizes p d ++ after_sizes p d))) (length_to_sizes p d)
      (λ j q. let m = size_small j q in omega arith)

  pub read_size : (i : ℕ) → i < p.count → size_at image i ≡ planned_size l i
  read_size i h = let f = a.fields.few in size_entry i (omega arith) ∙ filled_at (planned_size l) 0 0 place_count p.count i h f

  pub read_reserved_after : reserved_after (view_of image) ≡ 0
  read_reserved_after =
      ap (field 4 reserved_after_at)
      (parts p d ∙ sym (append_assoc (fixed_fields p) (offsets p d) (sizes p d ++ after_sizes p d))
      ∙ sym (append_assoc (fixed_fields p ++ offsets p d) (sizes p d) (after_sizes p d)))
      ∙ field_at 4 0 reserved_after_at ((fixed_fields p ++ offsets p d) ++ sizes p d) (from_sum p d) (length_to_reserved p d) (omega arith)

  pub read_sum : AreBytes d → checksum (view_of image) ≡ checksum_of image
  unfolding plain_image checksum_of
  read_sum w =
      field_at 4 (crc32 (header_bytes p ++ body_bytes p d)) checksum_at (header_bytes p) (body_bytes p d) (length_header p)
      (crc32_lt (header_bytes p ++ body_bytes p d) (bytes_append (header_bytes p) (body_bytes p d) (bytes_header p) (bytes_sections l d p.count w)))
      ∙ ap crc32 (sym (ap₂ (λ (x y : List ℕ). x ++ y) (before_sum p d) (past_header p d)))

  -- a field of section i's own header
  section_field : (w k i : ℕ) → i < p.count
      → field w (offset_at image i + k) image ≡ field w k (section_header (place_at l i) ++ (piece_at l d i ++ drop (packed_at l (suc i)) image))
  section_field w k i h =
      ap (λ (o : ℕ). field w (o + k) image) (read_offset i h) ∙ field_drop w k (packed_at l i) image ∙ ap (field w k) (at_section p d a.sized i h)

  pub read_kind : (i : ℕ) → i < p.count → kind_at image i ≡ planned_kind l i
  read_kind i h =
      let m = allowed_small p.version (planned_kind l i) (a.types.allowed i h) in
      let z : offset_at image i ≡ offset_at image i + 0 = omega arith in
      ap (λ (o : ℕ). field 2 o image) z ∙ section_field 2 0 i h ∙ header_kind (place_at l i) _ (omega arith)

  pub read_section_flags : (i : ℕ) → i < p.count → (place_at l i).flags < 2 ^ 16 → flags_at image i ≡ (place_at l i).flags
  read_section_flags i h q = section_field 2 section_flags_at i h ∙ header_flags_holds (place_at l i) _ q

  pub read_own_size : (i : ℕ) → i < p.count → own_size_at image i ≡ planned_size l i
  read_own_size i h = let m = size_small i h in section_field 8 section_size_at i h ∙ header_size_holds (place_at l i) _ (omega arith)

  pub read_end : (i : ℕ) → i < p.count → end_at image i ≡ packed_at l (suc i)
  read_end i h = ap₂ (λ (x y : ℕ). x + section_header_size + y) (read_offset i h) (read_size i h) ∙ sym (packed_suc (planned_size l) i)

  pub read_start : (i : ℕ) → i < p.count → start_at image i ≡ packed_at l i
  read_start zero h = sym (packed_zero (planned_size l))
  read_start (suc i) h = read_end i (omega arith)

  pub read_data : (i : ℕ) → i < p.count → take (planned_size l i) (drop (packed_at l i + section_header_size) image) ≡ piece_at l d i
  read_data i h =
      ap (take (planned_size l i))
      (sym (drop-drop section_header_size (packed_at l i) image) ∙ ap (drop section_header_size) (at_section p d a.sized i h) ∙ drop_at (section_header (place_at l i)) _ section_header_size (length_section_header (place_at l i)))
      ∙ take_at (piece_at l d i) _ (planned_size l i) (length_piece l d p.count a.sized i h)
