use mathlib.Core.Path.{ap₂}
use mathlib.Core.List.{List}
use Rattle.eif.specs.declared.Reading.{Reading}
use Rattle.eif.specs.declared.Section.{Section}
use Rattle.eif.specs.declared.Verdict.{Verdict}
use Rattle.eif_flat.specs.declared.EifReading.{EifReading}
use Rattle.eif_c.proofs.readings.given_reading.Goals as goal

-- `given_reading` meets its contract: verdict and sections are made anew, all else is as it was handed in.
abbrev with : EifReading → Verdict → List Section → Reading
with r v l =
    record {
      verdict = v;
      version = r.version;
      flags = r.flags;
      architecture = r.architecture;
      default_mem = r.default_mem;
      default_cpus = r.default_cpus;
      count = r.count;
      sections = l;
      ramdisk_mark = r.ramdisk_mark;
    }

pub returns : goal.returns
returns c = ap₂ (with c.args.reading) c.given_verdict-verdict.ensures c.read_sections.ensures
