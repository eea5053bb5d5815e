-- Writing an image: the rules on a plan in their order, the plain image of a plan, and when an accepted image is plain
-- (FORMAT.md, Writing an image, whose term `plain image` is).
-- Assumes nothing.
use Rattle.std.specs.Prelude.{ℕ, zero, suc, ◌+◌, ◌<◌, ◌≤◌, not, List, ◌++◌, map, ◌≡◌, ltb, eqb, length, take, drop, get_or}
use Rattle.octets.specs.Bytes.{be_bytes, be_bytes_each}
use Rattle.crc32.specs.Crc.{crc32}
use Rattle.eif.specs.Numbers.{size_limit, place_count, image_too_long, data_length_differs}
use Rattle.octets.specs.Logic.{choose}
use Rattle.eif.specs.Answers.{and_then, whole_verdict}
use Rattle.eif.specs.Rules.{field_fault, types_verdict}
use Rattle.eif.specs.Table.{filled, join_from}
use Rattle.eif.specs.Layout.{magic_number, view_of, reserved, reserved_after, count_of, offset_at, size_at, entry_size, packed_by}
use Rattle.eif.specs.Reading.{verdict_of, data_of, section_in}
use Rattle.eif.specs.Output.{room_verdict, written_for, output_for}
use Rattle.eif.specs.declared.Section.{Section}
use Rattle.eif.specs.declared.Reading.{Reading}
use Rattle.eif.specs.declared.Place.{Place}
use Rattle.eif.specs.declared.Plan.{Plan}
use Rattle.eif.specs.declared.Written.{Written}
use Rattle.eif.specs.declared.Verdict.{Verdict}
use Rattle.eif.specs.declared.Verdict.TheVariants.{Accepted}

-- ---- the places of a plan

abbrev pub blank_place : Place
blank_place = record { kind = 0; flags = 0; length = record { 0 = 0 } }

abbrev pub place_at : List Place → ℕ → Place
place_at l i = get_or l i blank_place

abbrev pub planned_kind : List Place → ℕ → ℕ
planned_kind l i = (place_at l i).kind

abbrev pub planned_size : List Place → ℕ → ℕ
planned_size l i = (place_at l i).length.0

-- where section i starts; at the count: how long the image is
abbrev pub packed_at : List Place → ℕ → ℕ
packed_at l i = packed_by (planned_size l) i

-- how much data the sections before i have; at the count: the plan's sum of lengths
unfoldable pub data_before : List Place → ℕ → ℕ
data_before l zero = 0
data_before l (suc i) = data_before l i + planned_size l i

-- how long the plain image of a plan is
abbrev pub plain_size : Plan → ℕ
plain_size p = packed_at p.places p.count

-- ---- the rules; 0: none applies

-- 1 and 15, for so many bytes of data
unfoldable pub size_fault : Plan → ℕ → ℕ
size_fault p given =
    choose (ltb size_limit (plain_size p)) image_too_long
    (choose (not (eqb given (data_before p.places p.count))) data_length_differs
    0)

-- the rules but 14, which the output adds: 4 and 5, those on types, 1 and 15
unfoldable pub plan_verdict : Plan → ℕ → Verdict
plan_verdict p given =
    and_then (whole_verdict (field_fault p.version p.count))
    (and_then (types_verdict p.version (planned_kind p.places) p.count)
    (whole_verdict (size_fault p given)))

-- all, for so many bytes of data and of room
unfoldable pub write_verdict : Plan → ℕ → ℕ → Verdict
write_verdict p given room =
    and_then (plan_verdict p given) (room_verdict room (plain_size p))

-- ---- the plain image

-- the header up to the table, 28 bytes: magic, version, flags, default_mem, default_cpus, reserved, num_sections
unfoldable pub fixed_fields : Plan → List ℕ
fixed_fields p =
    be_bytes 4 magic_number ++ (be_bytes 2 p.version ++ (be_bytes 2 p.flags ++ (be_bytes 8 p.default_mem
    ++ (be_bytes 8 p.default_cpus ++ (be_bytes 2 0 ++ be_bytes 2 p.count)))))

-- a table of the header: a number for each used place, then 0; and its bytes
abbrev pub table_of : (ℕ → ℕ) → ℕ → List ℕ
table_of f count = filled f 0 place_count count

unfoldable pub table_bytes : (ℕ → ℕ) → ℕ → List ℕ
table_bytes f count = be_bytes_each entry_size (table_of f count)

-- the header up to the checksum, 544 bytes: the offsets and the sizes of the sections; its last field is reserved
unfoldable pub header_bytes : Plan → List ℕ
header_bytes p =
    fixed_fields p ++ (table_bytes (packed_at p.places) p.count ++ (table_bytes (planned_size p.places) p.count ++ be_bytes 4 0))

-- the data of section i, taken from the lent data in plan order
abbrev pub piece_at : List Place → List ℕ → ℕ → List ℕ
piece_at l given i = take (planned_size l i) (drop (data_before l i) given)

-- a section's own header, 12 bytes
unfoldable pub section_header : Place → List ℕ
section_header x = be_bytes 2 x.kind ++ (be_bytes 2 x.flags ++ be_bytes 8 x.length.0)

-- section i: its own header and its data
abbrev pub section_bytes : List Place → List ℕ → ℕ → List ℕ
section_bytes l given i = section_header (place_at l i) ++ piece_at l given i

-- the sections in plan order
abbrev pub body_bytes : Plan → List ℕ → List ℕ
body_bytes p given = join_from (section_bytes p.places given) p.count 0

-- the header, the checksum of all other bytes, the sections
unfoldable pub plain_image : Plan → List ℕ → List ℕ
plain_image p given =
    header_bytes p ++ (be_bytes 4 (crc32 (header_bytes p ++ body_bytes p given)) ++ body_bytes p given)

-- ---- the answer and the output

unfoldable pub write_answer : Plan → ℕ → ℕ → Written
write_answer p given room = written_for (write_verdict p given room) (plain_size p)

-- how long the plain image of a plan is: the writer's answer, were there data and room as planned
unfoldable pub plan_length : Plan → Written
plan_length p = written_for (plan_verdict p (data_before p.places p.count)) (plain_size p)

unfoldable pub write_output : Plan → List ℕ → List ℕ → List ℕ
write_output p given d = output_for (write_verdict p (length given) (length d)) (plain_image p given) d

-- ---- an image read and written again

-- every reserved field and unused entry is zero
pub record UnusedZero (s : List ℕ) : Type 0 where
  pub reserved_zero : reserved (view_of s) ≡ 0
  pub reserved_after_zero : reserved_after (view_of s) ≡ 0
  pub unused_offset : (i : ℕ) → count_of s ≤ i → i < place_count → offset_at s i ≡ 0
  pub unused_size : (i : ℕ) → count_of s ≤ i → i < place_count → size_at s i ≡ 0

-- an accepted image of that form; the sections of any accepted image are packed
pub record Plain (s : List ℕ) : Type 0 where
  pub accepted : verdict_of s ≡ Accepted
  pub unused : UnusedZero s

abbrev pub place_of : Section → Place
place_of x = record { kind = x.kind; flags = x.flags; length = x.length }

-- the plan of a reading
abbrev pub plan_of : Reading → Plan
plan_of r =
    record { version = r.version; flags = r.flags; default_mem = r.default_mem; default_cpus = r.default_cpus; count = r.count; places = map place_of r.sections }

-- the sections' data, joined in file order
abbrev pub data_joined : List ℕ → Reading → List ℕ
data_joined s r = join_from (λ i. data_of s (section_in r.sections i)) r.count 0
