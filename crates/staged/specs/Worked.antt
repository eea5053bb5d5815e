-- A staged view by computation: on a base that has no bytes its own refusal comes before 27, whatever the numbers, and so does its last rule, 13;
-- where sections of the worked image lie; 27, 1 and of the roll 14. Numbers are written out as FORMAT.md prints them.
-- Assumes nothing.
use Rattle.std.specs.Prelude.{ℕ, ◌≡◌, refl, List, [], ◌∷◌, map, eqb, length}
use Rattle.std.proofs.Common.{ap, ap₂}
use Rattle.eif.specs.Worked.{worked_place, plan_over, worked_image}
use Rattle.eif.proofs.Worked.{worked_checksum, worked_accepted}
use Rattle.octets.specs.Bytes.{field, be_value}
use Rattle.octets.specs.Logic.{choose}
use Rattle.octets.specs.Over.{over}
use Rattle.eif.specs.Table.{in_table, join_from}
use Rattle.eif.specs.Answers.{refuse, refuse_at, and_then}
use Rattle.eif.specs.Layout.{view_of, packed_by}
use Rattle.eif.specs.Rules.{field_fault, first_refusal, allowed_in, order_fault, seen, missing_fault, missing}
use Rattle.eif.specs.Reading.{header_fault, section_fault, entry_fault, tail_fault, checksum_fault, checksum_of, judged, early, verdict_in, position_in, verdict_of, reading_of, read_view, read_image, data_of, section_in}
use Rattle.eif.specs.Plan.{data_before, fixed_fields, table_bytes, header_bytes, section_header, plain_image}
use Rattle.eif.specs.Roll.{head_of, flags_record, roll_of, measured_in, roll_bytes}
use Rattle.eif.specs.declared.Plan.{Plan}
use Rattle.eif.specs.declared.Verdict.{Verdict}
use Rattle.eif.specs.declared.Verdict.TheVariants.{Accepted}
use Rattle.staged.specs.Staged.{staged_plan, staged_part, staged_joined, afresh, view_verdict, staged_verdict, shown_part, staged_roll_verdict}
use Rattle.staged.specs.View.{shown_start, staged_place}
use Rattle.staged.specs.declared.StagedPart.{StagedPart}

pub base_first : staged_verdict [] 0 0 0 ≡ refuse 2 0
unfolding staged_verdict verdict_in early judged header_fault field_fault position_in
base_first = refl

-- 13, the last of the base's own, before 27: the checksum's last byte is another, and there is no section 3
abbrev other_sum : List ℕ
other_sum = over worked_image 547 (0 ∷ [])

other_sum_holds : verdict_of other_sum ≡ refuse_at 13 0 544
unfolding over verdict_in early judged header_fault field_fault first_refusal section_fault entry_fault allowed_in order_fault seen missing_fault tail_fault missing checksum_fault position_in field be_value checksum_of
other_sum_holds = ap (verdict_in (view_of other_sum)) worked_checksum

pub checksum_first : staged_verdict other_sum 0 3 3 ≡ refuse_at 13 0 544
unfolding staged_verdict
checksum_first = ap (λ (v : Verdict). and_then v (view_verdict (read_image other_sum).count (staged_plan other_sum 3 0) 3 3)) other_sum_holds

-- and everything beside it is zero
pub refused_place : staged_place [] 0 0 0 ≡ record { verdict = refuse 2 0; in_replacement = 0; start = 0; length = record { 0 = 0 } }
unfolding staged_place staged_verdict verdict_in early judged header_fault field_fault position_in
refused_place = refl

-- ---- from the tables of FORMAT.md, Staging, of the worked image, which has three sections

-- in the replacement, start, length
abbrev shown_place : ℕ → ℕ → ℕ → StagedPart
shown_place inReplacement start size =
    record { verdict = Accepted; in_replacement = inReplacement; start = start; length = record { 0 = size } }

-- where each section's data lies, with section 2 replaced by two bytes
pub places_shown : map (staged_place worked_image 2 2) (0 ∷ 1 ∷ 2 ∷ []) ≡ shown_place 0 560 1 ∷ shown_place 0 573 1 ∷ shown_place 1 0 2 ∷ []
unfolding staged_place staged_verdict staged_plan read_view packed_by field be_value
places_shown = rw worked_accepted refl

-- 27 for the number of the replaced section and for that of the shown one, which are one answer and so have no order; an image as long as the
-- longest, one byte more, and 27 before 1. For roll and registers 27 and 1 never both apply: a replacement for no section is no part of the image
-- written afresh
pub views_refused :
    staged_verdict worked_image 0 3 0 ∷ staged_verdict worked_image 1 0 3
    ∷ staged_verdict worked_image 1073741238 2 2 ∷ staged_verdict worked_image 1073741239 2 2 ∷ staged_verdict worked_image 1073741239 2 3 ∷ []
    ≡ refuse 27 0 ∷ refuse 27 0 ∷ Accepted ∷ refuse 1 0 ∷ refuse 27 0 ∷ []
unfolding staged_verdict staged_plan read_view packed_by field be_value
views_refused = rw worked_accepted refl

-- what is shown where the base starts at place 20 of block 1 and the replacement at place 40 of block 3: refused, no byte at the base's start; a
-- section of the base at its own place; the replacement at its start
pub starts_shown :
    shown_start [] 1 0 0 (1, 20) (3, 40) ∷ shown_start worked_image 1 2 3 (1, 20) (3, 40)
    ∷ shown_start worked_image 1 2 0 (1, 20) (3, 40) ∷ shown_start worked_image 1 2 2 (1, 20) (3, 40) ∷ []
    ≡ (1, 20) ∷ (1, 20) ∷ (1, 580) ∷ (3, 40) ∷ []
unfolding shown_start staged_verdict staged_plan read_view packed_by field be_value verdict_in early judged header_fault field_fault position_in
starts_shown = rw worked_accepted refl

pub parts_shown :
    shown_part [] (0x63 ∷ []) 0 0
    ∷ map (shown_part worked_image (0x63 ∷ []) 2) (3 ∷ 0 ∷ 2 ∷ [])
    ≡ [] ∷ [] ∷ (0x4b ∷ []) ∷ (0x63 ∷ []) ∷ []
unfolding shown_part staged_part staged_verdict staged_plan read_view packed_by field be_value verdict_in early judged header_fault field_fault position_in
parts_shown = rw worked_accepted refl

-- ---- the roll

-- of the worked image with one byte 63 for its ramdisk: plan, data, and how long the roll is
pub staged_plan_holds : staged_plan worked_image 2 1 ≡ plan_over 2 (worked_place 1 1 ∷ worked_place 2 1 ∷ worked_place 3 1 ∷ [])
unfolding staged_plan read_view field be_value in_table
staged_plan_holds = rw worked_accepted refl

pub staged_joined_holds : staged_joined worked_image (0x63 ∷ []) 2 ≡ 0x4b ∷ 0x61 ∷ 0x63 ∷ []
unfolding staged_joined staged_part read_view field be_value join_from
staged_joined_holds =
    ap
    (λ (v : Verdict).
    let x = reading_of (view_of worked_image) v in
    join_from (λ j. choose (eqb j 2) (0x63 ∷ []) (data_of worked_image (section_in x.sections j))) x.count 0)
    worked_accepted

pub staged_roll_length_holds : length (roll_bytes (afresh worked_image (0x63 ∷ []) 2)) ≡ 55
unfolding afresh roll_bytes flags_record roll_of head_of measured_in field be_value plain_image header_bytes fixed_fields table_bytes packed_by join_from section_header data_before in_table
staged_roll_length_holds = ap₂ (λ (p : Plan) (d : List ℕ). length (roll_bytes (plain_image p d))) staged_plan_holds staged_joined_holds

-- 27 before 14; no room, one byte too few, and enough
pub rolls_refused :
    staged_roll_verdict worked_image [] 3 0 ∷ map (staged_roll_verdict worked_image (0x63 ∷ []) 2) (0 ∷ 54 ∷ 55 ∷ [])
    ≡ refuse 27 0 ∷ refuse 14 0 ∷ refuse 14 0 ∷ Accepted ∷ []
unfolding staged_roll_verdict staged_verdict staged_plan read_view packed_by field be_value
rolls_refused = rw (worked_accepted, staged_roll_length_holds) refl

-- 1 before 14, of any replacement of that length
pub long_roll : (r : List ℕ) → length r ≡ 1073741239 → staged_roll_verdict worked_image r 2 0 ≡ refuse 1 0
unfolding staged_roll_verdict staged_verdict staged_plan read_view packed_by field be_value
long_roll r e = rw (e, worked_accepted) refl
