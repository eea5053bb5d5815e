-- 21 by computation: of three sections the second is metadata, whose one byte, at 20, is an opening bracket; and of two whole images, whose metadata
-- is an opening bracket and a digit. Numbers are written out, as FORMAT.md prints them.
-- Assumes nothing.
use Rattle.std.specs.Prelude.{ℕ, ◌≡◌, refl, List, [], ◌∷◌, ◌++◌, get_or, replicate}
use Rattle.std.proofs.Common.{ap}
use Rattle.json_machine.specs.Table.{classes, rows}
use Rattle.octets.specs.Bytes.{field, be_value}
use Rattle.octets.specs.Over.{over}
use Rattle.crc32.specs.Crc.{crc32, crc_from, shift_bits, shift_bit}
use Rattle.eif.specs.Answers.{refuse_at}
use Rattle.eif.specs.Table.{join_from}
use Rattle.eif.specs.Layout.{view_of}
use Rattle.eif.specs.Reading.{header_fault, entry_fault, section_fault, tail_fault, checksum_fault, position_in, judged, early, verdict_in, checksum_of, verdict_of, blank_section, section_at, reading_of}
use Rattle.eif.specs.Order.{view_rules, header_rules, section_rules, type_rules, order_rules}
use Rattle.eif.specs.Worked.{worked_image, worked_section}
use Rattle.eif.specs.declared.Section.{Section}
use Rattle.eif.specs.declared.Verdict.TheVariants.{Accepted}
use Rattle.eif.specs.Rules.{field_fault, allowed_in, seen, order_fault, missing, missing_fault, first_refusal}
use Rattle.json_machine.specs.Machine.{json_verdict, walk_from, ends_of, kind_of, act_of, entry_of, after_of}
use Rattle.eif_laws.specs.Orders.{first_two}
use Rattle.strict_reader.specs.Strict.{not_json, text_verdict, metadata_verdict, strict_verdict, read_strict, strict_rules}

abbrev cut_metadata : ℕ → Section
cut_metadata i = get_or (worked_section 1 10 1 ∷ worked_section 5 20 1 ∷ worked_section 2 22 1 ∷ []) i blank_section

pub metadata_refused : metadata_verdict (replicate 20 0 ++ 0x7b ∷ replicate 5 0) cut_metadata 3 0 ≡ refuse_at 21 1 20
unfolding first_refusal text_verdict not_json json_verdict walk_from ends_of kind_of act_of entry_of after_of classes rows
metadata_refused = refl

-- ---- images of version 4 with kernel 4b, command line 61 and metadata of one byte; their checksums are those that other programs compute

abbrev version_four : ℕ → List ℕ → List ℕ
version_four b sum =
    over (over (over (over (over (worked_image ++ b ∷ []) 5 (4 ∷ [])) 307 (1 ∷ [])) 575 (5 ∷ [])) 585 (1 ∷ [])) 544 sum

abbrev pub bracket_image : List ℕ
bracket_image = version_four 0x7b (0x2d ∷ 0xb2 ∷ 0xf3 ∷ 0x77 ∷ [])

abbrev pub digit_image : List ℕ
digit_image = version_four 0x30 (0xcc ∷ 0xbc ∷ 0x6b ∷ 0x6f ∷ [])

bracket_checksum : checksum_of bracket_image ≡ 0x2db2f377
unfolding over checksum_of crc32 crc_from shift_bits shift_bit
bracket_checksum = refl

digit_checksum : checksum_of digit_image ≡ 0xccbc6b6f
unfolding over checksum_of crc32 crc_from shift_bits shift_bit
digit_checksum = refl

-- the ordinary reading accepts both
pub bracket_accepted : verdict_of bracket_image ≡ Accepted
unfolding over verdict_in early judged header_fault field_fault first_refusal section_fault entry_fault allowed_in order_fault seen missing_fault tail_fault missing checksum_fault field be_value
bracket_accepted = ap (verdict_in (view_of bracket_image)) bracket_checksum

pub digit_accepted : verdict_of digit_image ≡ Accepted
unfolding over verdict_in early judged header_fault field_fault first_refusal section_fault entry_fault allowed_in order_fault seen missing_fault tail_fault missing checksum_fault field be_value
digit_accepted = ap (verdict_in (view_of digit_image)) digit_checksum

-- the stricter one the digit alone
pub bracket_refused : strict_verdict bracket_image ≡ refuse_at 21 2 586
unfolding strict_verdict over field be_value first_refusal text_verdict not_json json_verdict walk_from ends_of kind_of act_of entry_of after_of classes rows
bracket_refused = rw bracket_accepted refl

pub digit_strict : strict_verdict digit_image ≡ Accepted
unfolding strict_verdict over field be_value first_refusal text_verdict not_json json_verdict walk_from ends_of kind_of act_of entry_of after_of classes rows
digit_strict = rw digit_accepted refl

-- beside 21 all is zero
pub bracket_reading : read_strict bracket_image
    ≡ record {
      verdict = refuse_at 21 2 586;
      version = 0;
      flags = 0;
      architecture = 0;
      default_mem = 0;
      default_cpus = 0;
      count = 0;
      sections = replicate 32 (record { kind = 0; flags = 0; position = record { 0 = 0 }; length = record { 0 = 0 } });
      ramdisk_mark = 0;
    }
unfolding read_strict
bracket_reading = ap (reading_of (view_of bracket_image)) bracket_refused

-- 13 before 21: the checksum's last byte is another. An accepted image has at most one metadata section, so 21 applies to one section at most
abbrev other_sum_bracket : List ℕ
other_sum_bracket = over bracket_image 547 (0 ∷ [])

other_sum_refused : verdict_of other_sum_bracket ≡ refuse_at 13 0 544
unfolding over verdict_in early judged position_in header_fault field_fault first_refusal section_fault entry_fault allowed_in order_fault seen missing_fault tail_fault missing checksum_fault field be_value checksum_of
other_sum_refused = ap (verdict_in (view_of other_sum_bracket)) bracket_checksum

pub checksum_before_metadata :
    (strict_verdict other_sum_bracket ≡ refuse_at 13 0 544)
    × (metadata_verdict other_sum_bracket (section_at other_sum_bracket) 3 0 ≡ refuse_at 21 2 586)
unfolding strict_verdict over field be_value first_refusal text_verdict not_json json_verdict walk_from ends_of kind_of act_of entry_of after_of classes rows
checksum_before_metadata = (rw other_sum_refused refl, refl)

-- and the numbers of the first two rules that apply are those of both
pub checksum_and_metadata : first_two (strict_rules other_sum_bracket) ≡ 13 ∷ 21 ∷ []
unfolding strict_rules over view_rules header_rules section_rules type_rules order_rules join_from allowed_in seen missing field be_value checksum_of not_json json_verdict walk_from ends_of kind_of act_of entry_of after_of classes rows
checksum_and_metadata = rw bracket_checksum refl
