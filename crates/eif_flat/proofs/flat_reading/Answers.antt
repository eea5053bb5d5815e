use Prim.Native.Nat.{ℕ}
use mathlib.Core.Path.{◌≡◌}
use mathlib.Core.List.{List, map}
use lib.Count.{ones, count_trailing_zeros}
use Rattle.eif.specs.Numbers.{place_count}
use Rattle.eif.specs.Answers.{number_of, index_of, position_of}
use Rattle.eif.specs.declared.Reading.{Reading}
use Rattle.eif_flat.specs.Flat.{flat_section, flat_reading}
use Rattle.eif_flat.specs.declared.EifSection.{EifSection}
use Rattle.eif_flat.specs.declared.EifReading.{EifReading}
use Rattle.eif_flat.proofs.flat_reading.Goals as goal

-- `flat_reading` meets its contract: what it calls ensures the fields that are not taken over as they are.
-- Assumes nothing.
abbrev with : Reading → ℕ → ℕ → ℕ → ℕ → ℕ → List EifSection → EifReading
with r number index position count first sections =
    record {
      number = number;
      reserved = 0;
      version = r.version;
      flags = r.flags;
      count = r.count;
      index = index;
      position = position;
      default_mem = r.default_mem;
      default_cpus = r.default_cpus;
      ramdisk_mark = r.ramdisk_mark;
      ramdisk_count = count;
      first_ramdisk = first;
      architecture = r.architecture;
      reserved_after = 0;
      sections = sections;
    }

flat-is : (r : Reading) {number index position count first : ℕ} {sections : List EifSection} → number ≡ number_of r.verdict
    → index ≡ index_of r.verdict → position ≡ position_of r.verdict → count ≡ ones r.ramdisk_mark → first ≡ count_trailing_zeros place_count r.ramdisk_mark
    → sections ≡ map flat_section r.sections → with r number index position count first sections ≡ flat_reading r
flat-is r a b p c d e = cc

pub returns : goal.returns
returns c = flat-is c.args.reading c.number_of.ensures c.index_of.ensures c.position_of.ensures c.ramdisk_count.ensures c.first_ramdisk.ensures c.flat_sections.ensures
