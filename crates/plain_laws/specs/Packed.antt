-- What reading the plain image of a plan gives, and when two plans ask for the same image.
-- Assumes nothing.
use Rattle.std.specs.Prelude.{ℕ, ◌+◌, ◌<◌, ◌≡◌, List}
use Rattle.eif.specs.Numbers.{place_count}
use Rattle.eif.specs.Table.{filled}
use Rattle.eif.specs.Layout.{section_header_size, architecture}
use Rattle.eif.specs.Reading.{blank_section, mark_of}
use Rattle.eif.specs.Plan.{place_at, planned_kind, planned_size, packed_at}
use Rattle.eif.specs.declared.Place.{Place}
use Rattle.eif.specs.declared.Plan.{Plan}
use Rattle.eif.specs.declared.Section.{Section}
use Rattle.eif.specs.declared.Reading.{Reading}
use Rattle.eif.specs.declared.Verdict.TheVariants.{Accepted}

-- section i of places, packed
abbrev pub packed_section : List Place → ℕ → Section
packed_section l i =
    record {
      kind = planned_kind l i;
      flags = (place_at l i).flags;
      position = record { 0 = packed_at l i + section_header_size };
      length = record { 0 = planned_size l i };
    }

abbrev pub packed_sections : Plan → List Section
packed_sections p = filled (packed_section p.places) blank_section place_count p.count

-- the plan's fields, its used places with their packed positions, unused places blank
abbrev pub packed_reading : Plan → Reading
packed_reading p =
    record {
      verdict = Accepted;
      version = p.version;
      flags = p.flags;
      architecture = architecture p.flags;
      default_mem = p.default_mem;
      default_cpus = p.default_cpus;
      count = p.count;
      sections = packed_sections p;
      ramdisk_mark = mark_of (packed_sections p);
    }

-- two plans agree in every field and in their used places
pub record SamePlan (p q : Plan) : Type 0 where
  pub version : p.version ≡ q.version
  pub flags : p.flags ≡ q.flags
  pub default_mem : p.default_mem ≡ q.default_mem
  pub default_cpus : p.default_cpus ≡ q.default_cpus
  pub count : p.count ≡ q.count
  pub used : (i : ℕ) → i < p.count → place_at p.places i ≡ place_at q.places i
