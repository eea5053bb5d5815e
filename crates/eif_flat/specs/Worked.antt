-- The flat answers by computation: each field has another value, so that none is taken for another. Of no ramdisk the first is 32.
-- Assumes nothing.
use Rattle.std.specs.Prelude.{◌≡◌, refl, [], ◌∷◌, replicate}
use Rattle.std.specs.Int.Count.{ones, ones_in, count_trailing_zeros}
use Rattle.eif.specs.Answers.{refuse_at}
use Rattle.eif.specs.declared.Reading.{Reading}
use Rattle.eif.specs.declared.Section.{Section}
use Rattle.eif.specs.declared.Verdict.TheVariants.{Accepted}
use Rattle.eif_flat.specs.Flat.{flat, flat_reading, flat_written, flat_copied, flat_length, flat_roll_reading, read_section}
use Rattle.eif_flat.specs.declared.EifSection.{EifSection}

abbrev pub one_section : Section
one_section = record { kind = 1; flags = 2; position = record { 0 = 3 }; length = record { 0 = 4 } }

abbrev pub one_flat : EifSection
one_flat = record { kind = 1; flags = 2; reserved = 0; position = record { 0 = 3 }; length = record { 0 = 4 } }

pub reading_flat :
    flat_reading
    (record {
      verdict = refuse_at 7 2 44;
      version = 5;
      flags = 6;
      architecture = 8;
      default_mem = 9;
      default_cpus = 10;
      count = 11;
      sections = one_section ∷ [];
      ramdisk_mark = 120;
    })
    ≡ record {
      number = 7;
      reserved = 0;
      version = 5;
      flags = 6;
      count = 11;
      index = 2;
      position = 44;
      default_mem = 9;
      default_cpus = 10;
      ramdisk_mark = 120;
      ramdisk_count = 4;
      first_ramdisk = 3;
      architecture = 8;
      reserved_after = 0;
      sections = one_flat ∷ [];
    }
unfolding ones ones_in count_trailing_zeros
reading_flat = refl

abbrev no_ramdisk : Reading
no_ramdisk =
    record {
      verdict = Accepted;
      version = 0;
      flags = 0;
      architecture = 0;
      default_mem = 0;
      default_cpus = 0;
      count = 0;
      sections = [];
      ramdisk_mark = 0;
    }

pub no_ramdisk_holds : (flat_reading no_ramdisk).ramdisk_count ∷ (flat_reading no_ramdisk).first_ramdisk ∷ [] ≡ 0 ∷ 32 ∷ []
unfolding ones ones_in count_trailing_zeros
no_ramdisk_holds = refl

pub answers_flat :
    flat (refuse_at 7 2 44) 5 ∷ flat Accepted 5 ∷ []
    ≡ record { number = 7; reserved = replicate 7 0; index = 2; position = 44; length = 5 }
    ∷ record { number = 0; reserved = replicate 7 0; index = 0; position = 0; length = 5 } ∷ []
answers_flat = refl

-- of a writer, of a copier, of a stream's length
pub lengths_flat :
    flat_written (record { verdict = Accepted; length = 5 }) ∷ flat_copied (record { verdict = Accepted; count = 6 })
    ∷ flat_length (record { verdict = Accepted; length = record { 0 = 8 } }) ∷ []
    ≡ flat Accepted 5 ∷ flat Accepted 6 ∷ flat Accepted 8 ∷ []
lengths_flat = refl

pub roll_flat :
    flat_roll_reading
    (record {
      verdict = refuse_at 16 4 44;
      flags = 5;
      count = 6;
      records = record { kind = 1; position = record { 0 = 2 }; length = record { 0 = 3 } } ∷ [];
    })
    ≡ record {
      number = 16;
      reserved = 0;
      flags = 5;
      reserved_after = 0;
      index = 4;
      position = 44;
      count = 6;
      records = record { kind = 1; reserved = 0; reserved_after = 0; position = record { 0 = 2 }; length = record { 0 = 3 } } ∷ [];
    }
roll_flat = refl

pub section_read : read_section one_flat ≡ one_section
section_read = refl
