-- The worked roll and its neighbours, R1 to R11 of FORMAT.md, The boot roll, each behind a flags record, and neighbours of the flags
-- record: one table, one claim for all rows. Numbers are written out, as FORMAT.md prints them.
-- Assumes nothing.
use Rattle.std.specs.Prelude.{ℕ, zero, suc, ◌+◌, ◌≡◌, refl, List, [], ◌∷◌, ◌++◌, map, length, replicate, take}
use Rattle.eif.specs.Layout.{packed_by}
use Rattle.eif.specs.Table.{in_table}
use Rattle.octets.specs.Bytes.{le_field}
use Rattle.eif.specs.Answers.{refuse_at}
use Rattle.eif.specs.Rules.{seen, order_fault, missing}
use Rattle.eif.specs.Roll.{roll_of, head_of, flags_record, flags_fault, read_rest, read_roll, end_from, record_at, head_fault, body_fault, roll_fault}
use Rattle.eif.specs.declared.RollRecord.{RollRecord}
use Rattle.eif.specs.declared.RollReading.{RollReading}
use Rattle.eif.specs.declared.Verdict.TheVariants.{Accepted}
use Rattle.octets.specs.Lists.{joined}

pub record Row : Type 0 where
  pub roll : List ℕ
  pub answer : RollReading

-- the records of the worked roll
abbrev pub no_flags : List ℕ
no_flags = flags_record 0

abbrev pub kernel_record : List ℕ
kernel_record = head_of 1 1 ++ (0x4b ∷ [])

abbrev command_line_record : List ℕ
command_line_record = head_of 1 2 ++ (0x61 ∷ [])

abbrev pub ramdisk_record : List ℕ
ramdisk_record = head_of 0 3

abbrev pub end_record : List ℕ
end_record = head_of 0 0

-- 42 bytes that FORMAT.md prints, which follow the flags record
abbrev worked_rest : List ℕ
worked_rest =
    0x01 ∷ 0x00 ∷ 0x00 ∷ 0x00 ∷ 0x00 ∷ 0x00 ∷ 0x00 ∷ 0x00 ∷ 0x01 ∷ 0x00 ∷ 0x4b
    ∷ 0x01 ∷ 0x00 ∷ 0x00 ∷ 0x00 ∷ 0x00 ∷ 0x00 ∷ 0x00 ∷ 0x00 ∷ 0x02 ∷ 0x00 ∷ 0x61
    ∷ 0x00 ∷ 0x00 ∷ 0x00 ∷ 0x00 ∷ 0x00 ∷ 0x00 ∷ 0x00 ∷ 0x00 ∷ 0x03 ∷ 0x00
    ∷ 0x00 ∷ 0x00 ∷ 0x00 ∷ 0x00 ∷ 0x00 ∷ 0x00 ∷ 0x00 ∷ 0x00 ∷ 0x00 ∷ 0x00 ∷ []

-- with a flags record of no flag
abbrev pub worked_roll : List ℕ
worked_roll = 0x02 ∷ 0x00 ∷ 0x00 ∷ 0x00 ∷ 0x00 ∷ 0x00 ∷ 0x00 ∷ 0x00 ∷ 0x00 ∷ 0x01 ∷ 0x00 ∷ 0x00 ∷ worked_rest

-- type, data position and length of a record
abbrev listed_record : ℕ → ℕ → ℕ → RollRecord
listed_record kind position size = record { kind = kind; position = record { 0 = position }; length = record { 0 = size } }

-- an unused place
abbrev zero_record : RollRecord
zero_record = listed_record 0 0 0

abbrev read_with : ℕ → List RollRecord → RollReading
read_with flags records = record { verdict = Accepted; flags = flags; count = length records; records = in_table zero_record records }

abbrev accepted_with : List RollRecord → RollReading
accepted_with records = read_with 0 records

abbrev refused_with : ℕ → ℕ → ℕ → RollReading
refused_with number index position =
    record { verdict = refuse_at number index position; flags = 0; count = 0; records = replicate 32 zero_record }

abbrev row : List ℕ → RollReading → Row
row roll answer = record { roll = roll; answer = answer }

-- R1 no bytes; R2 ten zero bytes; R3 the worked roll; R4 without its last byte; R5 with a byte 00 added; R6 kernel and
-- command line exchanged; R7 ramdisk first; R8 kernel twice; R9 first type 4; R10 type 0 with length 1; R11 length of eight ff
abbrev pub roll_rows : List Row
roll_rows =
    row no_flags (refused_with 16 1 12)
    ∷ row (no_flags ++ replicate 10 0) (refused_with 12 0 0)
    ∷ row worked_roll (accepted_with (listed_record 1 22 1 ∷ listed_record 2 33 1 ∷ listed_record 3 44 0 ∷ []))
    ∷ row (take 53 worked_roll) (refused_with 16 4 44)
    ∷ row (worked_roll ++ (0 ∷ [])) (refused_with 18 0 54)
    ∷ row (no_flags ++ command_line_record ++ kernel_record ++ ramdisk_record ++ end_record) (accepted_with (listed_record 2 22 1 ∷ listed_record 1 33 1 ∷ listed_record 3 44 0 ∷ []))
    ∷ row (no_flags ++ ramdisk_record ++ kernel_record ++ command_line_record ++ end_record) (refused_with 10 1 12)
    ∷ row (no_flags ++ kernel_record ++ worked_rest) (refused_with 11 2 23)
    ∷ row (no_flags ++ head_of 1 4 ++ (0x4b ∷ []) ++ command_line_record ++ ramdisk_record ++ end_record) (refused_with 17 1 12)
    ∷ row (no_flags ++ head_of 1 0 ++ (0x4b ∷ []) ++ command_line_record ++ ramdisk_record ++ end_record) (refused_with 17 1 12)
    ∷ row (no_flags ++ replicate 8 0xff ++ (1 ∷ 0 ∷ [])) (refused_with 16 1 12)
    ∷ []

-- a flags record, kernel, command line and thirty empty ramdisks; and what is listed of these ramdisks
abbrev pub full_roll : List ℕ
full_roll = no_flags ++ kernel_record ++ command_line_record ++ joined (replicate 30 ramdisk_record)

abbrev ramdisks_from : ℕ → ℕ → List RollRecord
ramdisks_from zero at = []
ramdisks_from (suc n) at = listed_record 3 at 0 ∷ ramdisks_from n (at + 10)

-- no bytes; nine bytes of a flags record; no flags record; the end record first; a flags record of length 3; of length 3 and cut; its data
-- cut by one byte; a second flags record; every flag set; the lower byte first; 32 records behind it, and one more
abbrev pub flags_rows : List Row
flags_rows =
    row [] (refused_with 16 0 0)
    ∷ row (take 9 worked_roll) (refused_with 16 0 0)
    ∷ row worked_rest (refused_with 17 0 0)
    ∷ row (replicate 10 0) (refused_with 17 0 0)
    ∷ row (head_of 3 256 ++ (0 ∷ 0 ∷ 0 ∷ []) ++ worked_rest) (refused_with 17 0 0)
    ∷ row (head_of 3 256) (refused_with 17 0 0)
    ∷ row (take 11 worked_roll) (refused_with 16 0 0)
    ∷ row (no_flags ++ worked_roll) (refused_with 17 1 12)
    ∷ row (flags_record 0xffff ++ kernel_record ++ command_line_record ++ end_record)
    (read_with 0xffff (listed_record 1 22 1 ∷ listed_record 2 33 1 ∷ []))
    ∷ row (head_of 2 256 ++ (0x01 ∷ 0x02 ∷ []) ++ kernel_record ++ command_line_record ++ end_record)
    (read_with 0x0201 (listed_record 1 22 1 ∷ listed_record 2 33 1 ∷ []))
    ∷ row (full_roll ++ end_record) (accepted_with (listed_record 1 22 1 ∷ listed_record 2 33 1 ∷ ramdisks_from 30 44))
    ∷ row (full_roll ++ ramdisk_record ++ end_record) (refused_with 5 0 334)
    ∷ []

pub rows_hold : map (λ (r : Row). read_roll r.roll) (roll_rows ++ flags_rows) ≡ map (λ (r : Row). r.answer) (roll_rows ++ flags_rows)
unfolding head_of flags_record flags_fault read_rest read_roll end_from record_at le_field seen order_fault missing head_fault body_fault packed_by roll_fault in_table
rows_hold = refl

-- the worked roll is that of no flag, a kernel 4b, a command line 61 and an empty ramdisk
pub worked_is : flags_record 0 ++ roll_of (record { kind = 1; bytes = 0x4b ∷ [] } ∷ record { kind = 2; bytes = 0x61 ∷ [] } ∷ record { kind = 3; bytes = [] } ∷ []) ≡ worked_roll
unfolding flags_record roll_of head_of
worked_is = refl

-- the lower byte of the flags comes first
pub flags_bytes_holds : flags_record 0x0201 ≡ head_of 2 256 ++ (0x01 ∷ 0x02 ∷ [])
unfolding flags_record
flags_bytes_holds = refl
