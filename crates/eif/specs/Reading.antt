-- Reading an image: the rules in their order, and what a reading holds (FORMAT.md, Reading an image).
-- Assumes nothing.
use Rattle.std.specs.Prelude.{ℕ, suc, ◌+◌, ◌*◌, Bool, not, List, [], ◌∷◌, ◌++◌, ltb, leb, eqb, replicate, take, drop, get_or}
use Rattle.crc32.specs.Crc.{crc32}
use Rattle.eif.specs.Numbers.{size_limit, place_count, ramdisk, image_too_long, image_too_short, wrong_magic, wrong_version, wrong_count, starts_early, ends_late, sizes_differ, type_not_allowed, section_missing, checksum_differs, not_packed}
use Rattle.octets.specs.Lists.{sum_by}
use Rattle.octets.specs.Logic.{either, choose}
use Rattle.eif.specs.Answers.{refuse_at, and_then, whole_at, whole_verdict}
use Rattle.eif.specs.Rules.{field_fault, allowed_in, order_fault, first_fault, missing_fault}
use Rattle.eif.specs.Table.{filled}
use Rattle.eif.specs.Layout.{magic_number, header_size, section_header_size, version_at, count_at, offsets_at, checksum_at, checksum_end, View, view_of, magic, version, header_flags, architecture, default_mem, default_cpus, count, offset_entry, entry_at, offset, table_size, checksum, end, start}
use Rattle.eif.specs.declared.Section.{Section}
use Rattle.eif.specs.declared.Reading.{Reading}
use Rattle.eif.specs.declared.Verdict.{Verdict}
use Rattle.eif.specs.declared.Verdict.TheVariants.{Accepted, Refused}

-- ---- the rules; 0: none applies

-- 1 to 5
unfoldable pub header_fault : View → ℕ
header_fault v =
    choose (ltb size_limit v.size) image_too_long
    (choose (ltb v.size header_size) image_too_short
    (choose (not (eqb (magic v) magic_number)) wrong_magic
    (field_fault (version v) (count v))))

-- 6, 20 and 7 to 9 at section i
unfoldable pub entry_fault : View → ℕ → ℕ
entry_fault v i =
    choose (ltb (offset v i) (start v i)) starts_early
    (choose (not (eqb (offset v i) (start v i))) not_packed
    (choose (ltb v.size (end v i)) ends_late
    (choose (not (eqb (v.own_size i) (table_size v i))) sizes_differ
    (choose (not (allowed_in (version v) (v.kind i))) type_not_allowed
    0))))

-- 6, 20 and 7 to 11 at section i
unfoldable pub section_fault : View → ℕ → ℕ
section_fault v i =
    choose (eqb (entry_fault v i) 0) (order_fault v.kind (v.kind i) i) (entry_fault v i)

-- bytes after the last section
abbrev pub has_tail : View → Bool
has_tail v = ltb (start v (count v)) v.size

-- 20, for bytes after the last section
unfoldable pub tail_fault : View → ℕ
tail_fault v = choose (has_tail v) not_packed 0

-- 13, for the checksum that was computed
unfoldable pub checksum_fault : View → ℕ → ℕ
checksum_fault v computed = choose (not (eqb (checksum v) computed)) checksum_differs 0

-- ---- the positions

-- where the field at fault stands, for 1 to 12 and for 20 at a section: 0 for 1, 2 and 3, the version for 4, the count for 5 and 12,
-- the section's offset entry for 6, 7 and 20, the section's own header for 8 to 11
unfoldable pub position_in : (ℕ → ℕ → ℕ) → ℕ → ℕ → ℕ
position_in header number index =
    choose (leb number wrong_magic) 0
    (choose (eqb number wrong_version) version_at
    (choose (either (eqb number wrong_count) (eqb number section_missing)) count_at
    (choose (either (leb number ends_late) (eqb number not_packed)) (entry_at offsets_at index)
    (offset_entry header index))))

-- a verdict with its position
abbrev pub located : (ℕ → ℕ → ℕ) → Verdict → Verdict
located header Accepted = Accepted
located header (Refused r) = refuse_at r.number r.index (position_in header r.number r.index)

-- ---- the verdict

-- number and index by the rules 1 to 12, 20 where a section starts among them: the header, then the sections in ascending index
-- up to the first that fails, then what is missing
unfoldable pub judged : View → Verdict
judged v =
    and_then (whole_verdict (header_fault v))
    (and_then (first_fault (section_fault v) (count v) 0)
    (whole_verdict (missing_fault v.kind (version v) (count v))))

-- by all rules but 13: those with their positions, then bytes after the last section, of which the first is at fault
unfoldable pub early : View → Verdict
early v = and_then (located v.header (judged v)) (whole_at (tail_fault v) (start v (count v)))

-- by all rules
unfoldable pub verdict_in : View → ℕ → Verdict
verdict_in v computed = and_then (early v) (whole_at (checksum_fault v computed) checksum_at)

-- every byte of a file but those of the checksum, which are taken out
abbrev pub checked_bytes : List ℕ → List ℕ
checked_bytes s = take checksum_at s ++ drop checksum_end s

-- the checksum over them
unfoldable pub checksum_of : List ℕ → ℕ
checksum_of s = crc32 (checked_bytes s)

abbrev pub verdict_of : List ℕ → Verdict
verdict_of s = verdict_in (view_of s) (checksum_of s)

-- ---- the sections

-- what a reading says of section i: its data stands after its header
abbrev pub section : View → ℕ → Section
section v i =
    record {
      kind = v.kind i;
      flags = v.flags i;
      position = record { 0 = offset v i + section_header_size };
      length = record { 0 = table_size v i };
    }

abbrev pub blank_section : Section
blank_section = record { kind = 0; flags = 0; position = record { 0 = 0 }; length = record { 0 = 0 } }

-- the section at a place of a list
abbrev pub section_in : List Section → ℕ → Section
section_in sections i = get_or sections i blank_section

abbrev pub sections : View → List Section
sections v = filled (section v) blank_section place_count (count v)

abbrev pub section_at : List ℕ → ℕ → Section
section_at s = section (view_of s)

abbrev pub sections_of : List ℕ → List Section
sections_of s = sections (view_of s)

-- the data bytes of a section
abbrev pub data_of : List ℕ → Section → List ℕ
data_of s x = take x.length.0 (drop x.position.0 s)

-- of section i
abbrev pub own_data : List ℕ → ℕ → List ℕ
own_data s i = data_of s (section_at s i)

-- ---- the ramdisk mark, a term of FORMAT.md: bit i is one exactly when section i is a ramdisk

-- 1 for the type of a ramdisk
abbrev pub ramdisk_in : ℕ → ℕ
ramdisk_in kind = choose (eqb kind ramdisk) 1 0

abbrev pub ramdisk_bit : Section → ℕ
ramdisk_bit x = ramdisk_in x.kind

unfoldable pub mark_of : List Section → ℕ
mark_of [] = 0
mark_of (x ∷ xs) = ramdisk_bit x + 2 * mark_of xs

-- how many ramdisks are in a list whose elements have types
abbrev pub ramdisks_in : {A : Type 0} → (A → ℕ) → List A → ℕ
ramdisks_in kind_of l = sum_by (λ x. ramdisk_in (kind_of x)) l

abbrev pub section_kind : Section → ℕ
section_kind x = x.kind

-- the number of ramdisks of a section list
abbrev pub ramdisk_count : List Section → ℕ
ramdisk_count l = ramdisks_in section_kind l

-- the place of its first ramdisk, or where there is none the number of its places
unfoldable pub first_ramdisk : List Section → ℕ
first_ramdisk [] = 0
first_ramdisk (x ∷ xs) = choose (eqb x.kind ramdisk) 0 (suc (first_ramdisk xs))

-- ---- the reading

-- what stands beside a refusal: all zero
abbrev pub blank_reading : Verdict → Reading
blank_reading verdict =
    record {
      verdict = verdict;
      version = 0;
      flags = 0;
      architecture = 0;
      default_mem = 0;
      default_cpus = 0;
      count = 0;
      sections = replicate place_count blank_section;
      ramdisk_mark = 0;
    }

abbrev pub reading_of : View → Verdict → Reading
reading_of v (Refused r) = blank_reading (Refused r)
reading_of v Accepted =
    record {
      verdict = Accepted;
      version = version v;
      flags = header_flags v;
      architecture = architecture (header_flags v);
      default_mem = default_mem v;
      default_cpus = default_cpus v;
      count = count v;
      sections = sections v;
      ramdisk_mark = mark_of (sections v);
    }

-- by all rules, for the checksum that was computed
unfoldable pub read_view : View → ℕ → Reading
read_view v computed = reading_of v (verdict_in v computed)

-- the reading of an image
abbrev pub read_image : List ℕ → Reading
read_image s = read_view (view_of s) (checksum_of s)
