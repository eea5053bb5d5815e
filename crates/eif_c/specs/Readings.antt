-- A reading that a caller hands in, and the answers that are made from one.
use Rattle.std.specs.Prelude.{ℕ, List, map}
use Rattle.eif.specs.Answers.{verdict_at}
use Rattle.eif.specs.declared.Reading.{Reading}
use Rattle.eif_flat.specs.Flat.{read_section}
use Rattle.eif_flat.specs.declared.EifReading.{EifReading}
use Rattle.eif_fingerprint.specs.Fingerprint.{read_fingerprint}
use Rattle.eif_fingerprint.specs.declared.Fingerprinted.{Fingerprinted}

-- number 0 accepts, every other number refuses; reserved fields are not looked at, nor what is computed from the ramdisk mark
abbrev pub given_reading : EifReading → Reading
given_reading r =
    record {
      verdict = verdict_at r.number r.index r.position;
      version = r.version;
      flags = r.flags;
      architecture = r.architecture;
      default_mem = r.default_mem;
      default_cpus = r.default_cpus;
      count = r.count;
      sections = map read_section r.sections;
      ramdisk_mark = r.ramdisk_mark;
    }

-- the verdict of a reading and the fingerprint of image s by it
abbrev pub fingerprinted_by : List ℕ → Reading → Fingerprinted
fingerprinted_by s r = record { verdict = r.verdict; digest = read_fingerprint s r }
