-- The parts of a plain image, and where each stands.
-- Assumes nothing.
use Prim.Native.Nat.{ℕ, zero, suc, ◌+◌, ◌-◌, ◌*◌, ◌<◌, ◌≤◌}
use mathlib.Core.Path.{◌≡◌, refl, sym, ap, ap₂, ◌∙◌}
use mathlib.Core.List.{List, ◌++◌, append_assoc}
use mathlib.Core.Logic.{⊎_elim}
use native.Mathlib.Omega.{arith}
use native.Mathlib.Nat.{eq-or-lt_of_le}
use lib.ListN.{length, take, drop, length-append, length-take, length-drop}
use lib.Seq.{take_at, drop_at}
use Rattle.octets.proofs.Each.{length_each, bytes_each}
use Rattle.octets.specs.Bytes.{AreBytes, be_bytes}
use Rattle.octets.proofs.Value.{bytes_append, bytes_part}
use Rattle.crc32.specs.Crc.{crc32}
use Rattle.eif.specs.Numbers.{place_count}
use Rattle.eif.specs.Table.{join_from}
use Rattle.eif.specs.Layout.{magic_number, header_size, section_header_size, checksum_at, offsets_at, entry_size, packed_by}
use Rattle.eif.specs.Plan.{place_at, planned_size, packed_at, data_before, plain_size, piece_at, fixed_fields, table_of, table_bytes, header_bytes, section_header, section_bytes, body_bytes, plain_image}
use Rattle.eif.specs.declared.Plan.{Plan}
use Rattle.eif.specs.declared.Place.{Place}
use Rattle.eif_lemmas.proofs.Table.{length_filled, join_next, bytes_joined, join_end, join_from_holds}
use Rattle.plain_laws.proofs.Fields.{Bytes, be, join}

-- ---- positions grow with the place

grows : (f : ℕ → ℕ) → ((j : ℕ) → f j ≤ f (suc j)) → (i j : ℕ) → i ≤ j → f i ≤ f j
grows f up i zero h = let z : i ≡ 0 = omega arith in rw z (omega arith)
grows f up i (suc j) h =
    ⊎_elim
    (λ (e : i ≡ suc j). rw e (omega arith))
    (λ (g : i < suc j). let r = grows f up i j (omega arith) in let q = up j in omega arith)
    (eq-or-lt_of_le h)

module _ (sizes : ℕ → ℕ) where
  pub packed_zero : packed_by sizes 0 ≡ header_size
  unfolding packed_by
  packed_zero = refl

  pub packed_suc : (i : ℕ) → packed_by sizes (suc i) ≡ packed_by sizes i + section_header_size + sizes i
  unfolding packed_by
  packed_suc i = refl

-- the sizes before a section alone decide where it starts
pub packed_agree : (f g : ℕ → ℕ) (i : ℕ) → ((j : ℕ) → j < i → f j ≡ g j) → packed_by f i ≡ packed_by g i
unfolding packed_by
packed_agree f g zero h = refl
packed_agree f g (suc i) h = ap₂ (λ (x y : ℕ). x + section_header_size + y) (packed_agree f g i (λ j q. h j (omega arith))) (h i (omega arith))

module _ (l : List Place) where
  pub before_zero : data_before l 0 ≡ 0
  unfolding data_before
  before_zero = refl

  pub before_suc : (i : ℕ) → data_before l (suc i) ≡ data_before l i + planned_size l i
  unfolding data_before
  before_suc i = refl

  pub packed_le : (i j : ℕ) → i ≤ j → packed_at l i ≤ packed_at l j
  packed_le = grows (packed_at l) (λ j. let q = packed_suc (planned_size l) j in omega arith)

  pub before_le : (i j : ℕ) → i ≤ j → data_before l i ≤ data_before l j
  before_le = grows (data_before l) (λ j. let q = before_suc j in omega arith)

-- ---- the header's parts

pub length_table : (f : ℕ → ℕ) (count : ℕ) → length (table_bytes f count) ≡ entry_size * place_count
unfolding table_bytes
length_table f count = length_each entry_size (table_of f count) ∙ ap (λ (n : ℕ). entry_size * n) (length_filled f 0 place_count count)

module _ (p : Plan) where
  pub length_fixed : length (fixed_fields p) ≡ offsets_at
  unfolding fixed_fields
  length_fixed = refl

  pub length_header : length (header_bytes p) ≡ checksum_at
  unfolding header_bytes
  length_header =
      length-append (fixed_fields p) _
      ∙ ap₂ (λ (a b : ℕ). a + b) length_fixed
      (length-append (table_bytes (packed_at p.places) p.count) _
      ∙ ap₂ (λ (a b : ℕ). a + b) (length_table _ _)
      (length-append (table_bytes (planned_size p.places) p.count) _ ∙ ap (λ (n : ℕ). n + 4) (length_table _ _)))

  pub bytes_header : AreBytes (header_bytes p)
  unfolding header_bytes fixed_fields table_bytes
  bytes_header =
      (join
      (join (be 4 magic_number) (join (be 2 p.version) (join (be 2 p.flags) (join (be 8 p.default_mem) (join (be 8 p.default_cpus) (join (be 2 0) (be 2 p.count)))))))
      (join (table (packed_at p.places)) (join (table (planned_size p.places)) (be 4 0)))).are
    where
      table : (f : ℕ → ℕ) → Bytes (table_bytes f p.count)
      table f = record { are = bytes_each entry_size (table_of f p.count) }

-- ---- the sections

pub length_section_header : (x : Place) → length (section_header x) ≡ section_header_size
unfolding section_header
length_section_header x = refl

pub bytes_section_header : (x : Place) → AreBytes (section_header x)
unfolding section_header
bytes_section_header x = (join (be 2 x.kind) (join (be 2 x.flags) (be 8 x.length.0))).are

module _ (l : List Place) (d : List ℕ) where
  pub bytes_sections : (count : ℕ) → AreBytes d → AreBytes (join_from (section_bytes l d) count 0)
  bytes_sections count w =
      bytes_joined (section_bytes l d) count 0
      (λ i.
      bytes_append (section_header (place_at l i)) (piece_at l d i) (bytes_section_header (place_at l i))
      (bytes_part (planned_size l i) (data_before l i) d w))

  module _ (count : ℕ) (sized : length d ≡ data_before l count) where
    pub length_piece : (i : ℕ) → i < count → length (piece_at l d i) ≡ planned_size l i
    length_piece i h =
        let a = before_le l (suc i) count h in
        let b = before_suc l i in
        simp (length-take, length-drop) (omega arith)

    -- the next section starts where this one ends
    pub next_section : (i : ℕ) → i < count → packed_at l (suc i) ≡ packed_at l i + length (section_bytes l d i)
    next_section i h =
        let a = length-append (section_header (place_at l i)) (piece_at l d i) in
        let b = length_section_header (place_at l i) in
        let c = length_piece i h in
        let q = packed_suc (planned_size l) i in
        omega arith

    pub length_sections : packed_at l 0 + length (join_from (section_bytes l d) count 0) ≡ packed_at l count
    length_sections = join_end (section_bytes l d) (packed_at l) count next_section count 0 (omega arith)

-- ---- the whole image

module _ (p : Plan) (d : List ℕ) where
  abbrev s : List ℕ
  s = plain_image p d

  abbrev l : List Place
  l = p.places

  abbrev sum : List ℕ
  sum = be_bytes 4 (crc32 (header_bytes p ++ body_bytes p d))

  pub length_plain : length d ≡ data_before l p.count → length s ≡ plain_size p
  unfolding plain_image
  length_plain sized =
      let a : length (header_bytes p ++ (sum ++ body_bytes p d)) ≡ length (header_bytes p) + (4 + length (body_bytes p d)) =
      length-append (header_bytes p) _ ∙ ap (λ (n : ℕ). length (header_bytes p) + n) (length-append sum (body_bytes p d)) in
      let b = length_header p in
      let c = length_sections l d p.count sized in
      let e = packed_zero (planned_size l) in
      a ∙ (omega arith)

  pub bytes_plain : AreBytes d → AreBytes s
  unfolding plain_image
  bytes_plain w =
      bytes_append (header_bytes p) (sum ++ body_bytes p d) (bytes_header p)
      (bytes_append sum (body_bytes p d) (be 4 (crc32 (header_bytes p ++ body_bytes p d))).are (bytes_sections l d p.count w))

  pub past_header : drop header_size s ≡ body_bytes p d
  unfolding plain_image
  past_header =
      ap (drop header_size) (sym (append_assoc (header_bytes p) sum (body_bytes p d)))
      ∙ drop_at (header_bytes p ++ sum) (body_bytes p d) header_size (length-append (header_bytes p) sum ∙ ap (λ (n : ℕ). n + 4) (length_header p))

  pub before_sum : take checksum_at s ≡ header_bytes p
  unfolding plain_image
  before_sum = take_at (header_bytes p) _ checksum_at (length_header p)

  module _ (sized : length d ≡ data_before l p.count) where
    -- what stands from section i on
    from_section : (i : ℕ) → i ≤ p.count → drop (packed_at l i) s ≡ join_from (section_bytes l d) (p.count - i) i
    from_section =
        join_from_holds (section_bytes l d) (packed_at l) p.count (next_section l d p.count sized) s
        (ap (λ (n : ℕ). drop n s) (packed_zero (planned_size l)) ∙ past_header)

    -- section i, and what stands after it
    pub at_section : (i : ℕ) → i < p.count → drop (packed_at l i) s ≡ section_header (place_at l i) ++ (piece_at l d i ++ drop (packed_at l (suc i)) s)
    at_section i h =
        from_section i (omega arith) ∙ join_next (section_bytes l d) p.count i h
        ∙ ap (λ (r : List ℕ). section_bytes l d i ++ r) (sym (from_section (suc i) h))
        ∙ append_assoc (section_header (place_at l i)) (piece_at l d i) (drop (packed_at l (suc i)) s)
