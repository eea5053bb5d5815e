-- The flat answers that C sees: the number, index and position of a verdict (FORMAT.md, Answer numbers), and all else as it is.
-- What is computed from the ramdisk mark follows it: beside a refusal the mark is 0 and the first ramdisk 32.
-- Assumes nothing.
use Rattle.std.specs.Prelude.{ℕ, map, replicate}
use Rattle.std.specs.Int.Count.{ones, count_trailing_zeros}
use Rattle.eif.specs.Numbers.{place_count}
use Rattle.eif.specs.Answers.{number_of, index_of, position_of}
use Rattle.eif.specs.declared.Section.{Section}
use Rattle.eif.specs.declared.Reading.{Reading}
use Rattle.eif.specs.declared.Written.{Written}
use Rattle.eif.specs.declared.Copied.{Copied}
use Rattle.eif.specs.declared.StreamLength.{StreamLength}
use Rattle.eif.specs.declared.RollRecord.{RollRecord}
use Rattle.eif.specs.declared.RollReading.{RollReading}
use Rattle.eif.specs.declared.Verdict.{Verdict}
use Rattle.eif_flat.specs.declared.EifSection.{EifSection}
use Rattle.eif_flat.specs.declared.EifReading.{EifReading}
use Rattle.eif_flat.specs.declared.EifAnswer.{EifAnswer}
use Rattle.eif_flat.specs.declared.EifRollRecord.{EifRollRecord}
use Rattle.eif_flat.specs.declared.EifRollReading.{EifRollReading}

-- reserved fields are 0, in all of them
abbrev pub flat_section : Section → EifSection
flat_section x = record { kind = x.kind; flags = x.flags; reserved = 0; position = x.position; length = x.length }

abbrev pub flat_reading : Reading → EifReading
flat_reading r =
    record {
      number = number_of r.verdict;
      reserved = 0;
      version = r.version;
      flags = r.flags;
      count = r.count;
      index = index_of r.verdict;
      position = position_of r.verdict;
      default_mem = r.default_mem;
      default_cpus = r.default_cpus;
      ramdisk_mark = r.ramdisk_mark;
      ramdisk_count = ones r.ramdisk_mark;
      first_ramdisk = count_trailing_zeros place_count r.ramdisk_mark;
      architecture = r.architecture;
      reserved_after = 0;
      sections = map flat_section r.sections;
    }

abbrev pub flat : Verdict → ℕ → EifAnswer
flat verdict length =
    record { number = number_of verdict; reserved = replicate 7 0; index = index_of verdict; position = position_of verdict; length = length }

abbrev pub flat_written : Written → EifAnswer
flat_written w = flat w.verdict w.length

abbrev pub flat_copied : Copied → EifAnswer
flat_copied c = flat c.verdict c.count

abbrev pub flat_length : StreamLength → EifAnswer
flat_length l = flat l.verdict l.length.0

abbrev pub flat_record : RollRecord → EifRollRecord
flat_record x = record { kind = x.kind; reserved = 0; reserved_after = 0; position = x.position; length = x.length }

abbrev pub flat_roll_reading : RollReading → EifRollReading
flat_roll_reading r =
    record {
      number = number_of r.verdict;
      reserved = 0;
      flags = r.flags;
      reserved_after = 0;
      index = index_of r.verdict;
      position = position_of r.verdict;
      count = r.count;
      records = map flat_record r.records;
    }

-- a section that C hands in: its reserved field is not looked at
abbrev pub read_section : EifSection → Section
read_section x = record { kind = x.kind; flags = x.flags; position = x.position; length = x.length }
