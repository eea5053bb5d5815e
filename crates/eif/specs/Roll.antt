-- The boot roll, a term of FORMAT.md: its bytes, what writing one answers, and what reading one answers.
-- Assumes nothing.
use Rattle.std.specs.Prelude.{ℕ, zero, suc, ◌+◌, ◌≤◌, Bool, not, List, [], ◌∷◌, ◌++◌, map, ◌≡◌, ltb, leb, eqb, length, replicate, take, drop}
use Rattle.octets.specs.Bytes.{le_field, le_bytes}
use Rattle.eif.specs.Numbers.{size_limit, place_count, ramdisk, image_too_long, wrong_count, section_missing, record_cut, record_type_wrong, bytes_after_end}
use Rattle.octets.specs.Logic.{both, either, choose}
use Rattle.eif.specs.Answers.{refuse, refuse_at, and_then}
use Rattle.eif.specs.Rules.{boot_type, order_fault, boot_missing}
use Rattle.eif.specs.Table.{filled}
use Rattle.eif.specs.Layout.{header_flags_of, packed_by}
use Rattle.eif.specs.Reading.{sections_of, data_of, verdict_of}
use Rattle.eif.specs.Output.{room_verdict, written_for, output_for}
use Rattle.eif.specs.declared.Section.{Section}
use Rattle.eif.specs.declared.RollRecord.{RollRecord}
use Rattle.eif.specs.declared.RollReading.{RollReading}
use Rattle.eif.specs.declared.Written.{Written}
use Rattle.eif.specs.declared.Verdict.{Verdict}
use Rattle.eif.specs.declared.Verdict.TheVariants.{Accepted}

-- ---- the bytes of a roll

-- an 8-byte length and a 2-byte type, little-endian
abbrev pub record_head_size : ℕ
record_head_size = 10

-- where the length stands in it, and the type
abbrev pub record_length_at : ℕ
record_length_at = 0

abbrev pub record_type_at : ℕ
record_type_at = 8

unfoldable pub head_of : ℕ → ℕ → List ℕ
head_of size kind = le_bytes 8 size ++ le_bytes 2 kind

-- the type of the end record, whose length is 0 too
abbrev pub end_type : ℕ
end_type = 0

-- the flags record, which is first: the header's flags, two bytes, little-endian
abbrev pub flags_type : ℕ
flags_type = 256

abbrev pub flags_length : ℕ
flags_length = 2

abbrev pub flags_record_size : ℕ
flags_record_size = record_head_size + flags_length

unfoldable pub flags_record : ℕ → List ℕ
flags_record flags = head_of flags_length flags_type ++ le_bytes flags_length flags

-- what a record holds: a type and the data
pub record Record : Type 0 where
  pub kind : ℕ
  pub bytes : List ℕ

-- what follows the flags record: a record for each, and the end record
unfoldable pub roll_of : List Record → List ℕ
roll_of [] = head_of 0 end_type
roll_of (r ∷ rs) = head_of (length r.bytes) r.kind ++ (r.bytes ++ roll_of rs)

-- ---- the roll of an image

-- the sections of type kernel, command line or ramdisk, in file order; the stream Whole has them too: `whole_kept` of eif_lemmas/proofs/Types.antt
unfoldable pub measured_in : List Section → List Section
measured_in [] = []
measured_in (x ∷ xs) =
    let rest = measured_in xs in
    choose (boot_type x.kind) (x ∷ rest) rest

-- what a section's data is, is given by a function
abbrev pub record_for : (Section → List ℕ) → Section → Record
record_for held x = record { kind = x.kind; bytes = held x }

-- the type and the data of each of those sections
abbrev pub records_by : (Section → List ℕ) → List Section → List Record
records_by held l = map (record_for held) (measured_in l)

abbrev pub records_of : List ℕ → List Record
records_of s = records_by (data_of s) (sections_of s)

unfoldable pub roll_bytes : List ℕ → List ℕ
roll_bytes s = flags_record (header_flags_of s) ++ roll_of (records_of s)

-- ---- words of FORMAT.md, The boot roll: same sections, same flags and beginning

-- two images hold the same such sections: same types, lengths, bytes and order
abbrev pub SameSections : List ℕ → List ℕ → Type 0
SameSections s t = records_of s ≡ records_of t

-- two images have the same flags and hold the same such sections
pub record SameBoot (s t : List ℕ) : Type 0 where
  pub flags : header_flags_of s ≡ header_flags_of t
  pub sections : SameSections s t

-- one roll is the beginning of another
pub record Begins (x y : List ℕ) : Type 0 where
  pub shorter : length x ≤ length y
  pub same : take (length x) y ≡ x

-- ---- writing: the image's own refusal, then 14

unfoldable pub roll_verdict : List ℕ → ℕ → Verdict
roll_verdict s room =
    and_then (verdict_of s) (room_verdict room (length (roll_bytes s)))

unfoldable pub roll_answer : List ℕ → ℕ → Written
roll_answer s room = written_for (roll_verdict s room) (length (roll_bytes s))

-- how long the roll of an image is
unfoldable pub roll_length : List ℕ → Written
roll_length s = written_for (verdict_of s) (length (roll_bytes s))

unfoldable pub roll_output : List ℕ → List ℕ → List ℕ
roll_output s d = output_for (roll_verdict s (length d)) (roll_bytes s) d

-- ---- reading: the flags record

-- the test of its rule 17
abbrev pub flags_head_wrong : List ℕ → Bool
flags_head_wrong s = either (not (eqb (le_field 2 record_type_at s) flags_type)) (not (eqb (le_field 8 record_length_at s) flags_length))

-- its rules 16, 17 and 16, all at record 0; 0: none applies
unfoldable pub flags_fault : List ℕ → ℕ
flags_fault s =
    choose (ltb (length s) record_head_size) record_cut
    (choose (flags_head_wrong s) record_type_wrong
    (choose (ltb (length s) flags_record_size) record_cut
    0))

abbrev pub roll_flags : List ℕ → ℕ
roll_flags s = le_field flags_length record_head_size s

-- what follows it
abbrev pub rest_of : List ℕ → List ℕ
rest_of s = drop flags_record_size s

-- ---- reading: the records of the rest, by their place in it

-- where record i starts
unfoldable pub record_at : List ℕ → ℕ → ℕ
record_at s zero = 0
record_at s (suc i) = let p = record_at s i in p + record_head_size + le_field 8 p s

abbrev pub record_size : List ℕ → ℕ → ℕ
record_size s i = le_field 8 (record_at s i) s

abbrev pub record_kind : List ℕ → ℕ → ℕ
record_kind s i = le_field 2 (record_at s i + record_type_at) s

abbrev pub is_end : List ℕ → ℕ → Bool
is_end s i = eqb (record_kind s i) end_type

-- the rules 16 and 17 on a record's head; 0: none applies
unfoldable pub head_fault : List ℕ → ℕ → ℕ
head_fault s i =
    choose (ltb (length s) (record_at s i + record_head_size)) record_cut
    (choose (ltb ramdisk (record_kind s i)) record_type_wrong
    (choose (both (is_end s i) (not (eqb (record_size s i) 0))) record_type_wrong
    0))

-- the rules 5, 16, 10 and 11 on a record that is not the end record
unfoldable pub body_fault : List ℕ → ℕ → ℕ
body_fault s i =
    choose (leb place_count i) wrong_count
    (choose (ltb (length s) (record_at s (suc i))) record_cut
    (order_fault (record_kind s) (record_kind s i) i))

-- the record where the records end, or the number of the refusal on the way and the record at which it stops
pub data Ending : Type 0 where
  ended : ℕ → Ending
  stopped : ℕ → ℕ → Ending

-- from record i on, in at most n records: a head, then the end, or what follows the head and the next record
unfoldable pub end_from : List ℕ → ℕ → ℕ → Ending
end_from s zero i = stopped wrong_count i
end_from s (suc n) i =
    let rest = end_from s n (suc i) in
    let judged = choose (eqb (body_fault s i) 0) rest (stopped (body_fault s i) i) in
    choose (eqb (head_fault s i) 0) (choose (is_end s i) (ended i) judged) (stopped (head_fault s i) i)

-- what the records before i would take in an image, with its header
abbrev pub size_as_image : List ℕ → ℕ → ℕ
size_as_image s i = packed_by (record_size s) i

-- the rules 18, 12 and 1 on a roll whose end record is record n
unfoldable pub roll_fault : List ℕ → ℕ → ℕ
roll_fault s n =
    choose (ltb (record_at s n + record_head_size) (length s)) bytes_after_end
    (choose (boot_missing (record_kind s) n) section_missing
    (choose (ltb size_limit (size_as_image s n)) image_too_long
    0))

-- ---- the answer

-- where record i of the rest starts in the roll
abbrev pub record_start : List ℕ → ℕ → ℕ
record_start s i = flags_record_size + record_at s i

-- a refusal at record i of the rest, which starts there at a position: the index counts the flags record too, but 5 gives 0, and the position is
-- the record's start in the roll
abbrev pub stop_at : ℕ → ℕ → ℕ → Verdict
stop_at number i at = refuse_at number (choose (eqb number wrong_count) 0 (suc i)) (flags_record_size + at)

abbrev pub stop_verdict : List ℕ → ℕ → ℕ → Verdict
stop_verdict s number i = stop_at number i (record_at s i)

-- a refusal of a roll whose end record is record n of the rest: 18 gives the first byte after it, 12 and 1 give 0
abbrev pub end_verdict : List ℕ → ℕ → ℕ → Verdict
end_verdict s number n = refuse_at number 0 (choose (eqb number bytes_after_end) (record_start s n + record_head_size) 0)

-- what a reading says of record i of the rest: the position counts from the roll's start
abbrev pub listed_at : List ℕ → ℕ → RollRecord
listed_at s i = record { kind = record_kind s i; position = record { 0 = record_start s i + record_head_size }; length = record { 0 = record_size s i } }

abbrev pub blank_record : RollRecord
blank_record = record { kind = 0; position = record { 0 = 0 }; length = record { 0 = 0 } }

abbrev pub refused_roll : Verdict → RollReading
refused_roll verdict = record { verdict = verdict; flags = 0; count = 0; records = replicate place_count blank_record }

abbrev pub accepted_roll : ℕ → ℕ → List RollRecord → RollReading
accepted_roll flags count records = record { verdict = Accepted; flags = flags; count = count; records = records }

abbrev pub roll_answer_for : ℕ → List ℕ → Ending → RollReading
roll_answer_for flags s (stopped number i) = refused_roll (stop_verdict s number i)
roll_answer_for flags s (ended n) =
    choose (eqb (roll_fault s n) 0)
    (accepted_roll flags n (filled (listed_at s) blank_record place_count n))
    (refused_roll (end_verdict s (roll_fault s n) n))

-- the rest of a roll with these flags: at most 32 records and the end record
unfoldable pub read_rest : ℕ → List ℕ → RollReading
read_rest flags s = roll_answer_for flags s (end_from s (suc place_count) 0)

-- the flags record, then the rest
unfoldable pub read_roll : List ℕ → RollReading
read_roll s =
    choose (eqb (flags_fault s) 0) (read_rest (roll_flags s) (rest_of s))
    (refused_roll (refuse (flags_fault s) 0))
