-- The worked example of FORMAT.md, The boot roll, by computation: the plain version 2 image with kernel 4b, command line 61 and
-- an empty ramdisk. Answer numbers and positions are written out, as FORMAT.md prints them, so that a wrong number behind a name falls here.
-- What rests on its checksum stands in proofs/Worked.antt.
-- Assumes nothing.
use Rattle.std.specs.Prelude.{ℕ, ◌≡◌, refl, List, [], ◌∷◌, ◌++◌, map, length, replicate, take}
use Rattle.eif.specs.Table.{in_table, join_from}
use Rattle.octets.specs.Bytes.{be_value, field}
use Rattle.octets.specs.Over.{over}
use Rattle.crc32.specs.Crc.{crc32, crc_from, shift_bits, shift_bit}
use Rattle.eif.specs.Numbers.{kernel, command_line, ramdisk, signature, metadata}
use Rattle.eif.specs.Rules.{allowed_in, seen, order_fault, type_fault, missing, missing_fault, types_verdict, first_refusal, field_fault}
use Rattle.eif.specs.Answers.{refuse, refuse_at}
use Rattle.eif.specs.Layout.{view_of, offset_at, packed_by}
use Rattle.eif.specs.Reading.{header_fault, entry_fault, section_fault, tail_fault, checksum_fault, position_in, judged, early, verdict_in, verdict_of, blank_section, sections_of, reading_of, mark_of}
use Rattle.eif.specs.Plan.{blank_place, plan_verdict, data_before, fixed_fields, table_bytes, header_bytes, section_header, plain_image, write_verdict, size_fault, place_at}
use Rattle.eif.specs.Roll.{head_of, flags_record, roll_of, measured_in, roll_bytes}
use Rattle.eif.specs.Stream.{keeps, kept, stream_sections, sections_answer}
use Rattle.eif.specs.Rows.{worked_roll}
use Rattle.eif.specs.declared.Place.{Place}
use Rattle.eif.specs.declared.Plan.{Plan}
use Rattle.eif.specs.declared.Section.{Section}
use Rattle.eif.specs.declared.Stream.TheVariants.{Whole, Boot, App}
use Rattle.eif.specs.declared.Verdict.{Verdict}
use Rattle.eif.specs.declared.Verdict.TheVariants.{Accepted}

abbrev pub worked_place : ℕ → ℕ → Place
worked_place kind size = record { kind = kind; flags = 0; length = record { 0 = size } }

-- with these places alone, and 0 in the fields that no rule judges
abbrev pub plan_over : ℕ → List Place → Plan
plan_over version places =
    record {
      version = version;
      flags = 0;
      default_mem = 0;
      default_cpus = 0;
      count = length places;
      places = in_table blank_place places;
    }

abbrev pub worked_plan : Plan
worked_plan = plan_over 2 (worked_place kernel 1 ∷ worked_place command_line 1 ∷ worked_place ramdisk 0 ∷ [])

-- the image's bytes
abbrev pub worked_image : List ℕ
worked_image =
    -- magic number and version; flags, default_mem, default_cpus and reserved; num_sections
    0x2e ∷ 0x65 ∷ 0x69 ∷ 0x66 ∷ 0 ∷ 2 ∷ replicate 20 0 ++ 0 ∷ 3 ∷ []
    -- offsets: 548, 561, 574
    ++ replicate 6 0 ++ 0x02 ∷ 0x24 ∷ replicate 6 0 ++ 0x02 ∷ 0x31 ∷ replicate 6 0 ++ 0x02 ∷ 0x3e ∷ replicate 232 0
    -- sizes: 1, 1, 0
    ++ replicate 7 0 ++ 1 ∷ replicate 7 0 ++ 1 ∷ replicate 240 0
    -- reserved, checksum
    ++ replicate 4 0 ++ 0x86 ∷ 0xc2 ∷ 0x27 ∷ 0x31 ∷ []
    -- each section's own header and data
    ++ 0 ∷ 1 ∷ replicate 9 0 ++ 1 ∷ 0x4b ∷ []
    ++ 0 ∷ 2 ∷ replicate 9 0 ++ 1 ∷ 0x61 ∷ []
    ++ 0 ∷ 3 ∷ replicate 10 0

pub worked_plain : plain_image worked_plan (0x4b ∷ 0x61 ∷ []) ≡ worked_image
unfolding in_table crc32 crc_from shift_bits shift_bit plain_image header_bytes fixed_fields table_bytes packed_by join_from section_header data_before
worked_plain = refl

pub worked_length : length worked_image ≡ 586
worked_length = refl

pub worked_offsets : map (offset_at worked_image) (0 ∷ 1 ∷ 2 ∷ []) ≡ 548 ∷ 561 ∷ 574 ∷ []
unfolding field be_value
worked_offsets = refl

-- a byte after the last section is told after 12 and before 13

pub tail_before_checksum : verdict_of (worked_image ++ 0 ∷ []) ≡ refuse_at 20 0 586
unfolding verdict_in early judged header_fault field_fault first_refusal section_fault entry_fault allowed_in order_fault seen missing_fault tail_fault missing checksum_fault field be_value
tail_before_checksum = refl

-- version 3 with a kernel and a signature, and no command line
abbrev incomplete_plan : Plan
incomplete_plan = plan_over 3 (worked_place kernel 1 ∷ worked_place signature 1 ∷ [])

pub missing_before_tail : verdict_of (plain_image incomplete_plan (0x4b ∷ 0x61 ∷ []) ++ 0 ∷ []) ≡ refuse_at 12 0 26
unfolding verdict_in early judged position_in header_fault field_fault first_refusal section_fault entry_fault allowed_in order_fault seen missing_fault tail_fault missing checksum_fault field be_value plain_image header_bytes fixed_fields table_bytes packed_by join_from section_header data_before in_table
missing_before_tail = refl

-- the plan alone is at fault, and a plan has no position
pub incomplete_plan_holds : plan_verdict incomplete_plan 2 ≡ refuse 12 0
unfolding plan_verdict field_fault first_refusal type_fault allowed_in order_fault seen types_verdict missing_fault missing in_table
incomplete_plan_holds = refl

-- ---- what is refused, and where: some bytes of the image are others, from a position on

pub record RefusedImage : Type 0 where
  pub image : List ℕ
  pub verdict : Verdict

abbrev refused_image : List ℕ → Verdict → RefusedImage
refused_image image verdict = record { image = image; verdict = verdict }

abbrev changed_image : ℕ → List ℕ → Verdict → RefusedImage
changed_image at bytes verdict = refused_image (over worked_image at bytes) verdict

-- the checksum's last byte is another: only the field differs, and not what it is taken over
abbrev pub other_checksum : List ℕ
other_checksum = over worked_image 547 (0 ∷ [])

-- 2 to 5; 6 and 20 at section 1, 7 at section 2; 8, 9 at section 1, 10 at section 0, 11 at section 2; 12, 20
abbrev pub judged_before13 : List RefusedImage
judged_before13 =
    refused_image (take 547 worked_image) (refuse_at 2 0 0)
    ∷ changed_image 3 (0x67 ∷ []) (refuse_at 3 0 0)
    ∷ changed_image 5 (5 ∷ []) (refuse_at 4 0 4)
    ∷ changed_image 27 (33 ∷ []) (refuse_at 5 0 26)
    ∷ changed_image 42 (2 ∷ 0x30 ∷ []) (refuse_at 6 1 36)
    ∷ changed_image 42 (2 ∷ 0x32 ∷ []) (refuse_at 20 1 36)
    ∷ changed_image 307 (1 ∷ []) (refuse_at 7 2 44)
    ∷ changed_image 572 (2 ∷ []) (refuse_at 8 1 561)
    ∷ changed_image 562 (6 ∷ []) (refuse_at 9 1 561)
    ∷ changed_image 549 (3 ∷ []) (refuse_at 10 0 548)
    ∷ changed_image 575 (1 ∷ []) (refuse_at 11 2 574)
    ∷ changed_image 562 (3 ∷ []) (refuse_at 12 0 26)
    ∷ refused_image (worked_image ++ 0 ∷ []) (refuse_at 20 0 586)
    ∷ []

-- these and 13; the order of two faults at once: `eif_laws/specs/Orders`
abbrev pub refused_images : List RefusedImage
refused_images = judged_before13 ++ refused_image other_checksum (refuse_at 13 0 544) ∷ []

abbrev pub worked_section : ℕ → ℕ → ℕ → Section
worked_section kind position size = record { kind = kind; flags = 0; position = record { 0 = position }; length = record { 0 = size } }

pub worked_sections : sections_of worked_image ≡ worked_section kernel 560 1 ∷ worked_section command_line 573 1 ∷ worked_section ramdisk 586 0 ∷ replicate 29 blank_section
unfolding field be_value
worked_sections = refl

pub worked_roll_holds : roll_bytes worked_image ≡ worked_roll
unfolding roll_bytes flags_record roll_of head_of measured_in field be_value
worked_roll_holds = refl

-- ---- streams and roll in file order: of kernel, signature, two ramdisks, command line and metadata

abbrev late_sections : List Section
late_sections =
    worked_section kernel 560 1 ∷ worked_section signature 573 5 ∷ worked_section ramdisk 590 2 ∷ worked_section ramdisk 604 3
    ∷ worked_section command_line 619 4 ∷ worked_section metadata 635 6 ∷ replicate 26 blank_section

abbrev late_measured : List Section
late_measured = worked_section kernel 560 1 ∷ worked_section ramdisk 590 2 ∷ worked_section ramdisk 604 3 ∷ worked_section command_line 619 4 ∷ []

pub late_streams :
    map (λ stream. stream_sections stream late_sections) (Whole ∷ Boot ∷ App ∷ [])
    ≡ late_measured ∷ (worked_section kernel 560 1 ∷ worked_section ramdisk 590 2 ∷ worked_section command_line 619 4 ∷ [])
    ∷ (worked_section ramdisk 604 3 ∷ []) ∷ []
unfolding kept keeps
late_streams = refl

-- one section, and zero in each other place
pub late_listed :
    sections_answer App late_sections
    ≡ record {
      count = 1;
      sections =
          worked_section ramdisk 604 3
          ∷ replicate 31 (record { kind = 0; flags = 0; position = record { 0 = 0 }; length = record { 0 = 0 } });
    }
unfolding sections_answer in_table kept keeps
late_listed = refl

pub late_roll : measured_in late_sections ≡ late_measured
unfolding measured_in
late_roll = refl

-- ---- what writer, roll writer and copier refuse

-- a kernel of so many bytes that the image is one byte longer than the longest
abbrev long_plan : Plan
long_plan = plan_over 2 (worked_place kernel 1073741253 ∷ worked_place command_line 0 ∷ [])

-- the longest
abbrev longest_plan : Plan
longest_plan = plan_over 2 (worked_place kernel 1073741252 ∷ worked_place command_line 0 ∷ [])

pub writes_refused :
    write_verdict worked_plan 2 585 ∷ write_verdict worked_plan 3 586 ∷ write_verdict worked_plan 3 0 ∷ write_verdict long_plan 0 0
    ∷ write_verdict longest_plan 0 0 ∷ write_verdict longest_plan 1073741252 1073741824 ∷ []
    ≡ refuse 14 0 ∷ refuse 15 0 ∷ refuse 15 0 ∷ refuse 1 0 ∷ refuse 15 0 ∷ Accepted ∷ []
unfolding in_table write_verdict plan_verdict field_fault first_refusal type_fault allowed_in order_fault seen types_verdict size_fault missing_fault missing packed_by data_before
writes_refused = refl

-- ---- the fields that no rule judges: each has another value, so that none is taken for another, and every flag but the architecture's is set

abbrev marked_plan : Plan
marked_plan =
    record {
      version = 2;
      flags = 0xfffe;
      default_mem = 0x1112131415161718;
      default_cpus = 0x2122232425262728;
      count = 3;
      places =
          record { kind = kernel; flags = 0x0304; length = record { 0 = 1 } } ∷ worked_place command_line 1 ∷ worked_place ramdisk 0
          ∷ replicate 29 blank_place;
    }

-- the start of its image, and of its first section's header
pub fields_written : fixed_fields marked_plan ++ section_header (place_at marked_plan.places 0)
    ≡ 0x2e ∷ 0x65 ∷ 0x69 ∷ 0x66 ∷ 0 ∷ 2 ∷ 0xff ∷ 0xfe ∷ 0x11 ∷ 0x12 ∷ 0x13 ∷ 0x14 ∷ 0x15 ∷ 0x16 ∷ 0x17 ∷ 0x18
    ∷ 0x21 ∷ 0x22 ∷ 0x23 ∷ 0x24 ∷ 0x25 ∷ 0x26 ∷ 0x27 ∷ 0x28 ∷ 0 ∷ 0 ∷ 0 ∷ 3 ∷ 0 ∷ 1 ∷ 3 ∷ 4 ∷ 0 ∷ 0 ∷ 0 ∷ 0 ∷ 0 ∷ 0 ∷ 0 ∷ 1 ∷ []
unfolding fixed_fields section_header
fields_written = refl

-- the worked image with these bytes
abbrev marked_image : List ℕ
marked_image = over (over worked_image 0 (fixed_fields marked_plan)) 548 (section_header (place_at marked_plan.places 0))

pub fields_read : reading_of (view_of marked_image) Accepted
    ≡ record {
      verdict = Accepted;
      version = 2;
      flags = 0xfffe;
      architecture = 0;
      default_mem = 0x1112131415161718;
      default_cpus = 0x2122232425262728;
      count = 3;
      sections =
          record { kind = 1; flags = 0x0304; position = record { 0 = 560 }; length = record { 0 = 1 } }
          ∷ worked_section 2 573 1 ∷ worked_section 3 586 0 ∷ replicate 29 blank_section;
      ramdisk_mark = 4;
    }
unfolding over fixed_fields section_header field be_value mark_of
fields_read = refl
