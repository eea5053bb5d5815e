-- What FORMAT.md gives as numbers, written out, by computation: the versions, counts and types that are allowed, the architecture, and the zeros
-- beside a refusal. A wrong value behind a name falls here.
-- Assumes nothing.
use Rattle.std.specs.Prelude.{◌+◌, ◌≡◌, refl, true, false, [], ◌∷◌, map, replicate}
use Rattle.eif.specs.Answers.{refuse}
use Rattle.eif.specs.Rules.{field_fault, allowed_in, seen, missing}
use Rattle.eif.specs.Layout.{architecture}
use Rattle.eif.specs.Reading.{header_fault, judged, early, verdict_in, position_in, read_view, read_image}
use Rattle.eif.specs.Stream.{copy_verdict, copy_answer, length_answer}
use Rattle.eif.specs.declared.Stream.TheVariants.{Whole}

-- 4 for the versions 1 and 5
pub versions_known : map (λ version. field_fault version 2) (1 ∷ 2 ∷ 3 ∷ 4 ∷ 5 ∷ []) ≡ 4 ∷ 0 ∷ 0 ∷ 0 ∷ 4 ∷ []
unfolding field_fault
versions_known = refl

-- 5 for 1 and 33 sections
pub counts_known : map (field_fault 2) (1 ∷ 2 ∷ 32 ∷ 33 ∷ []) ≡ 5 ∷ 0 ∷ 0 ∷ 5 ∷ []
unfolding field_fault
counts_known = refl

-- the types 0 to 6 in the versions 2, 3 and 4
pub types_allowed : map (λ version. map (allowed_in version) (0 ∷ 1 ∷ 2 ∷ 3 ∷ 4 ∷ 5 ∷ 6 ∷ [])) (2 ∷ 3 ∷ 4 ∷ [])
    ≡ (false ∷ true ∷ true ∷ true ∷ false ∷ false ∷ false ∷ [])
    ∷ (false ∷ true ∷ true ∷ true ∷ true ∷ false ∷ false ∷ [])
    ∷ (false ∷ true ∷ true ∷ true ∷ true ∷ true ∷ false ∷ [])
    ∷ []
unfolding allowed_in
types_allowed = refl

-- whether something is missing beside a kernel and a command line, types 1 and 2, in the versions 2, 3 and 4
pub metadata_asked : map (λ version. missing (λ i. i + 1) version 2) (2 ∷ 3 ∷ 4 ∷ []) ≡ false ∷ false ∷ true ∷ []
unfolding missing seen
metadata_asked = refl

-- the lowest bit of the flags
pub architectures : map architecture (0 ∷ 1 ∷ 0xfffe ∷ 0xffff ∷ []) ≡ 0 ∷ 1 ∷ 0 ∷ 1 ∷ []
architectures = refl

-- ---- beside a refusal, here of no bytes, everything is zero

pub refused_reading :
    read_image []
    ≡ record {
      verdict = refuse 2 0;
      version = 0;
      flags = 0;
      architecture = 0;
      default_mem = 0;
      default_cpus = 0;
      count = 0;
      sections = replicate 32 (record { kind = 0; flags = 0; position = record { 0 = 0 }; length = record { 0 = 0 } });
      ramdisk_mark = 0;
    }
unfolding read_view verdict_in early judged header_fault field_fault position_in
refused_reading = refl

pub refused_copy : copy_answer [] Whole 0 1 ≡ record { verdict = refuse 2 0; count = 0 }
unfolding copy_answer copy_verdict verdict_in early judged header_fault field_fault position_in
refused_copy = refl

pub refused_length : length_answer [] Whole ≡ record { verdict = refuse 2 0; length = record { 0 = 0 } }
unfolding length_answer verdict_in early judged header_fault field_fault position_in
refused_length = refl
