-- The flat answers of these calls by computation: each field has another value, so that none is taken for another.
-- Assumes nothing.
use Rattle.std.specs.Prelude.{◌≡◌, refl, [], ◌∷◌, replicate}
use Rattle.eif.specs.Answers.{refuse_at}
use Rattle.json_grammar.specs.Verdict.{Text, Fault}
use Rattle.eif_flat.specs.Worked.{one_section, one_flat}
use Rattle.eif_c.specs.Measure.{flat_fed, flat_registers}
use Rattle.eif_c.specs.Fingerprint.{flat_fingerprint}
use Rattle.eif_c.specs.Listed.{flat_listed, list_of}
use Rattle.eif_c.specs.Signature.{flat_sign1}
use Rattle.eif_c.specs.Assembly.{flat_stepped}
use Rattle.eif_c.specs.Staging.{flat_part}
use Rattle.eif_c.specs.Readings.{given_reading}
use Rattle.eif_c.specs.Strict.{flat_json}

pub fed_flat :
    flat_fed (record { verdict = refuse_at 7 2 44; state = record { words = 1 ∷ []; block = 3 ∷ []; total = 4 } })
    ≡ record { number = 7; reserved = replicate 7 0; index = 2; position = 44; state = record { words = 1 ∷ []; block = 3 ∷ []; total = 4 } }
fed_flat = refl

pub registers_flat :
    flat_registers (record { verdict = refuse_at 7 2 44; registers = record { 0 = 1 ∷ [] } ∷ record { 0 = 3 ∷ [] } ∷ [] })
    ≡ record { number = 7; reserved = replicate 7 0; index = 2; position = 44; registers = record { 0 = 1 ∷ [] } ∷ record { 0 = 3 ∷ [] } ∷ [] }
registers_flat = refl

pub fingerprint_flat :
    flat_fingerprint (record { verdict = refuse_at 7 2 44; digest = 1 ∷ [] })
    ≡ record { number = 7; reserved = replicate 7 0; index = 2; position = 44; digest = record { 0 = 1 ∷ [] } }
fingerprint_flat = refl

pub sign1_flat :
    flat_sign1
    (record {
      verdict = refuse_at 7 2 44;
      claim = record { algorithm = 1; register_index = 3; register_value = 4 ∷ [] };
      position = record { 0 = 5 };
      length = record { 0 = 6 };
    })
    ≡ record {
      number = 7;
      reserved = replicate 7 0;
      index = 2;
      position = 44;
      claim = record { algorithm = 1; register_index = 3; register_value = 4 ∷ [] };
      signature_position = record { 0 = 5 };
      signature_length = record { 0 = 6 };
    }
sign1_flat = refl

pub stepped_flat :
    flat_stepped (record { verdict = refuse_at 7 2 44; state = record { opened = 1; length = 3; room = 4; places = 5 }; length = 6 })
    ≡ record { number = 7; reserved = replicate 7 0; index = 2; position = 44; state = record { opened = 1; length = 3; room = 4; places = 5 }; length = 6 }
stepped_flat = refl

pub part_flat :
    flat_part (record { verdict = refuse_at 7 2 44; in_replacement = 1; start = 3; length = record { 0 = 4 } })
    ≡ record { number = 7; in_replacement = 1; reserved = replicate 6 0; index = 2; position = 44; start = 3; length = record { 0 = 4 } }
part_flat = refl

pub listed_flat : flat_listed (record { count = 5; sections = one_section ∷ [] }) ≡ record { count = 5; sections = one_flat ∷ [] }
listed_flat = refl

pub list_read : list_of (record { count = 5; sections = one_flat ∷ [] }) ≡ record { count = 5; sections = one_section ∷ [] }
list_read = refl

-- a reading that is handed in, each reserved field with a value of its own
pub reading_given :
    given_reading
    (record {
      number = 7;
      reserved = 1;
      version = 5;
      flags = 6;
      count = 11;
      index = 2;
      position = 44;
      default_mem = 9;
      default_cpus = 10;
      ramdisk_mark = 120;
      ramdisk_count = 12;
      first_ramdisk = 13;
      architecture = 8;
      reserved_after = 14;
      sections = record { kind = 1; flags = 2; reserved = 15; position = record { 0 = 3 }; length = record { 0 = 4 } } ∷ [];
    })
    ≡ record {
      verdict = refuse_at 7 2 44;
      version = 5;
      flags = 6;
      architecture = 8;
      default_mem = 9;
      default_cpus = 10;
      count = 11;
      sections = one_section ∷ [];
      ramdisk_mark = 120;
    }
reading_given = refl

pub json_flat :
    flat_json Text ∷ flat_json (Fault 3) ∷ []
    ≡ record { is_text = 1; reserved = replicate 7 0; place = 0 } ∷ record { is_text = 0; reserved = replicate 7 0; place = 3 } ∷ []
json_flat = refl
