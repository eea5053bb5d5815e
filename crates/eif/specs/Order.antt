-- The order of the refusals that FORMAT.md gives for each call, as lists: every rule at every section or record that it judges.
-- The chains of `Reading`, `Plan`, `Stream` and `Roll` have the shape of the code, these lists that of FORMAT.md. That each verdict is that of
-- the first rule that applies: `eif_laws/FirstApplies`. Assumes nothing.
use Rattle.std.specs.Prelude.{ℕ, zero, suc, ◌+◌, Bool, true, not, List, [], ◌∷◌, ◌++◌, ltb, leb, eqb, length}
use Rattle.eif.specs.Table.{join_from}
use Rattle.eif.specs.Numbers.{size_limit, place_count, kernel, ramdisk, image_too_long, image_too_short, wrong_magic, wrong_version, wrong_count, starts_early, ends_late, sizes_differ, type_not_allowed, ramdisk_before_kernel, type_repeated, section_missing, checksum_differs, not_packed, output_too_short, data_length_differs, record_cut, record_type_wrong, bytes_after_end, past_stream_end}
use Rattle.octets.specs.Logic.{both, either, choose}
use Rattle.eif.specs.Answers.{refuse_at}
use Rattle.eif.specs.Rules.{version_known, count_known, allowed_in, seen, boot_missing, missing}
use Rattle.eif.specs.Layout.{magic_number, header_size, version_at, count_at, offsets_at, checksum_at, View, view_of, magic, version, count, entry_at, offset, table_size, checksum, end, start}
use Rattle.eif.specs.Reading.{has_tail, checksum_of}
use Rattle.eif.specs.Plan.{planned_kind, plain_size, data_before}
use Rattle.eif.specs.Stream.{stream_of, listed_bytes}
use Rattle.eif.specs.Roll.{record_head_size, flags_record_size, rest_of, record_at, record_start, record_size, record_kind, is_end, size_as_image, roll_bytes, flags_head_wrong}
use Rattle.eif.specs.declared.Plan.{Plan}
use Rattle.eif.specs.declared.Stream.{Stream}
use Rattle.eif.specs.declared.StreamSections.{StreamSections}
use Rattle.eif.specs.declared.Verdict.{Verdict}
use Rattle.eif.specs.declared.Verdict.TheVariants.{Accepted}

-- whether a rule applies, its number, and the index and the position that its refusal gives
pub record Rule : Type 0 where
  pub applies : Bool
  pub number : ℕ
  pub index : ℕ
  pub position : ℕ

abbrev pub rule : Bool → ℕ → ℕ → ℕ → Rule
rule applies number index position = record { applies = applies; number = number; index = index; position = position }

-- 14, for so much room and so many bytes
abbrev pub room_rule : ℕ → ℕ → Rule
room_rule room size = rule (ltb room size) output_too_short 0 0

-- the refusal of the first rule that applies
unfoldable pub first_that_applies : List Rule → Verdict
first_that_applies [] = Accepted
first_that_applies (r ∷ rs) = choose r.applies (refuse_at r.number r.index r.position) (first_that_applies rs)

-- ---- rules on section types, for image, plan and roll: types are given by a function from place to type

-- 10 and 11 at place i, whose refusals give an index and a position
unfoldable pub order_rules : (ℕ → ℕ) → ℕ → ℕ → ℕ → List Rule
order_rules kinds i index position =
    rule (both (eqb (kinds i) ramdisk) (not (seen kinds kernel i))) ramdisk_before_kernel index position
    ∷ rule (both (not (eqb (kinds i) ramdisk)) (seen kinds (kinds i) i)) type_repeated index position
    ∷ []

-- 9, 10 and 11 at place i, in a version
unfoldable pub type_rules : ℕ → (ℕ → ℕ) → ℕ → ℕ → List Rule
type_rules version kinds i position = rule (not (allowed_in version (kinds i))) type_not_allowed i position ∷ order_rules kinds i i position

-- ---- reading an image: 1 to 5, then 6, 20 and 7 to 11 section by section, then 12, 20, 13

unfoldable pub header_rules : View → List Rule
header_rules v =
    rule (ltb size_limit v.size) image_too_long 0 0
    ∷ rule (ltb v.size header_size) image_too_short 0 0
    ∷ rule (not (eqb (magic v) magic_number)) wrong_magic 0 0
    ∷ rule (not (version_known (version v))) wrong_version 0 version_at
    ∷ rule (not (count_known (count v))) wrong_count 0 count_at
    ∷ []

unfoldable pub section_rules : View → ℕ → List Rule
section_rules v i =
    rule (ltb (offset v i) (start v i)) starts_early i (entry_at offsets_at i)
    ∷ rule (not (eqb (offset v i) (start v i))) not_packed i (entry_at offsets_at i)
    ∷ rule (ltb v.size (end v i)) ends_late i (entry_at offsets_at i)
    ∷ rule (not (eqb (v.own_size i) (table_size v i))) sizes_differ i (offset v i)
    ∷ type_rules (version v) v.kind i (offset v i)

unfoldable pub view_rules : View → ℕ → List Rule
view_rules v computed =
    header_rules v ++ (join_from (section_rules v) (count v) 0
    ++ (rule (missing v.kind (version v) (count v)) section_missing 0 count_at
    ∷ rule (has_tail v) not_packed 0 (start v (count v))
    ∷ rule (not (eqb (checksum v) computed)) checksum_differs 0 checksum_at
    ∷ []))

abbrev pub image_rules : List ℕ → List Rule
image_rules s = view_rules (view_of s) (checksum_of s)

-- ---- writing an image: 4, 5, then 9 to 11 section by section, then 12, 1, 15, 14

-- on the plan alone, as for the length of its image
unfoldable pub plan_rules : Plan → List Rule
plan_rules p =
    rule (not (version_known p.version)) wrong_version 0 0
    ∷ rule (not (count_known p.count)) wrong_count 0 0
    ∷ (join_from (λ i. type_rules p.version (planned_kind p.places) i 0) p.count 0
    ++ (rule (missing (planned_kind p.places) p.version p.count) section_missing 0 0
    ∷ rule (ltb size_limit (plain_size p)) image_too_long 0 0
    ∷ []))

-- with so many bytes of data and of room
unfoldable pub write_rules : Plan → ℕ → ℕ → List Rule
write_rules p given room =
    plan_rules p
    ++ (rule (not (eqb given (data_before p.places p.count))) data_length_differs 0 0
    ∷ room_rule room (plain_size p)
    ∷ [])

-- ---- copying from a stream, and writing a roll: the image's own, then 19 or 14

unfoldable pub copy_rules : List ℕ → Stream → ℕ → List Rule
copy_rules s stream from = image_rules s ++ (rule (ltb (length (stream_of s stream)) from) past_stream_end 0 0 ∷ [])

-- from sections already found there is no image to judge
unfoldable pub copy_listed_rules : List ℕ → StreamSections → ℕ → List Rule
copy_listed_rules s list from = rule (ltb (length (listed_bytes s list)) from) past_stream_end 0 0 ∷ []

unfoldable pub roll_write_rules : List ℕ → ℕ → List Rule
roll_write_rules s room = image_rules s ++ (room_rule room (length (roll_bytes s)) ∷ [])

-- ---- reading a roll: of the flags record 16, 17, 16; then per record 16, 17; stop at the end record; 5, 16, 10, 11. After the end
-- record 18, 12, 1. Record i of the rest is record i + 1 of the roll, and starts twelve bytes further on in it

unfoldable pub flags_rules : List ℕ → List Rule
flags_rules s =
    rule (ltb (length s) record_head_size) record_cut 0 0
    ∷ rule (flags_head_wrong s) record_type_wrong 0 0
    ∷ rule (ltb (length s) flags_record_size) record_cut 0 0
    ∷ []

unfoldable pub head_rules : List ℕ → ℕ → List Rule
head_rules s i =
    rule (ltb (length s) (record_at s i + record_head_size)) record_cut (suc i) (record_start s i)
    ∷ rule (either (ltb ramdisk (record_kind s i)) (both (is_end s i) (not (eqb (record_size s i) 0)))) record_type_wrong (suc i) (record_start s i)
    ∷ []

unfoldable pub body_rules : List ℕ → ℕ → List Rule
body_rules s i =
    rule (leb place_count i) wrong_count 0 (record_start s i)
    ∷ rule (ltb (length s) (record_at s (suc i))) record_cut (suc i) (record_start s i)
    ∷ order_rules (record_kind s) i (suc i) (record_start s i)

-- with the end record at place n
unfoldable pub end_rules : List ℕ → ℕ → List Rule
end_rules s n =
    rule (ltb (record_at s n + record_head_size) (length s)) bytes_after_end 0 (record_start s n + record_head_size)
    ∷ rule (boot_missing (record_kind s) n) section_missing 0 0
    ∷ rule (ltb size_limit (size_as_image s n)) image_too_long 0 0
    ∷ []

-- from record i on, in at most n records
unfoldable pub roll_rules_from : List ℕ → ℕ → ℕ → List Rule
roll_rules_from s zero i = rule true wrong_count 0 (record_start s i) ∷ []
roll_rules_from s (suc n) i = head_rules s i ++ choose (is_end s i) (end_rules s i) (body_rules s i ++ roll_rules_from s n (suc i))

-- the flags record, at most 32 records and the end record
abbrev pub roll_rules : List ℕ → List Rule
roll_rules s = flags_rules s ++ roll_rules_from (rest_of s) (suc place_count) 0
