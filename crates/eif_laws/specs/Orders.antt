-- Each order list of `eif/specs/Order`, by computation. A case is an input to which two neighbours of a list apply: its verdict is that of the first,
-- and the numbers of the first two rules that apply are those of both. Numbers, indices and positions are written out. A list, a definition and a
-- program in which two neighbours are exchanged alike differ from a row.
--
-- Neighbours that never apply to one input, or never first:
-- - 1 and 2 of an image: it would be longer than the longest image and shorter than a header. An image to which 1 applies is too long to compute:
--   1 and 3 are computed of a view alone, and law `eif_lemmas/Reading.read_too_long` says that 1 comes before every other rule;
-- - 9 and 10 at one section: a ramdisk is allowed in every version;
-- - 9 and 11 at one section: an earlier section has the type that is not allowed, and its 9 comes first;
-- - 10 and 11 at one section or record: 10 is about a ramdisk, 11 about any other type.
use Rattle.std.specs.Prelude.{ℕ, ◌≡◌, refl, List, [], ◌∷◌, ◌++◌, map, length, replicate, take}
use Rattle.std.proofs.Common.{ap}
use Rattle.octets.specs.Logic.{choose}
use Rattle.octets.specs.Bytes.{be_value, field, le_field}
use Rattle.octets.specs.Over.{over}
use Rattle.eif.specs.Table.{in_table, join_from}
use Rattle.eif.specs.Rules.{field_fault, allowed_in, seen, order_fault, type_fault, missing, missing_fault, types_verdict, first_refusal}
use Rattle.eif.specs.Answers.{refuse_at, number_of, and_then}
use Rattle.eif.specs.Output.{room_verdict}
use Rattle.eif.specs.Layout.{View, view_of, packed_by}
use Rattle.eif.specs.Reading.{header_fault, entry_fault, section_fault, tail_fault, checksum_fault, position_in, judged, early, verdict_in, verdict_of, checksum_of}
use Rattle.eif.specs.Plan.{data_before, plan_verdict, size_fault, write_verdict}
use Rattle.eif.specs.Stream.{kept, keeps, stream_of, copy_verdict, past_end}
use Rattle.eif.specs.Roll.{head_of, flags_record, flags_fault, record_at, head_fault, body_fault, end_from, roll_fault, read_rest, read_roll, roll_of, measured_in, roll_bytes, roll_verdict}
use Rattle.eif.specs.Order.{Rule, order_rules, type_rules, header_rules, section_rules, view_rules, plan_rules, write_rules, flags_rules, head_rules, body_rules, end_rules, roll_rules_from, roll_rules}
use Rattle.eif.specs.Worked.{worked_image, worked_place, plan_over, other_checksum}
use Rattle.eif.proofs.Worked.{worked_checksum}
use Rattle.eif.specs.Rows.{worked_roll, no_flags, kernel_record, ramdisk_record, end_record, full_roll}
use Rattle.eif.specs.declared.Plan.{Plan}
use Rattle.eif.specs.declared.Stream.TheVariants.{Whole}
use Rattle.eif.specs.declared.Verdict.{Verdict}

-- the numbers of the rules that apply, in the order of their list
abbrev applying : List Rule → List ℕ
applying [] = []
applying (r ∷ rs) = choose r.applies (r.number ∷ applying rs) (applying rs)

-- of the first two
abbrev pub first_two : List Rule → List ℕ
first_two rules = take 2 (applying rules)

-- bytes of an image or a roll, their verdict, and the number of the rule that would apply next
pub record OrderedBytes : Type 0 where
  pub bytes : List ℕ
  pub verdict : Verdict
  pub next : ℕ

abbrev two_faults : List ℕ → Verdict → ℕ → OrderedBytes
two_faults bytes verdict next = record { bytes = bytes; verdict = verdict; next = next }

-- the numbers of both rules
abbrev numbers_of : OrderedBytes → List ℕ
numbers_of r = number_of r.verdict ∷ r.next ∷ []

-- ---- reading an image; the right checksum is given as 0, which none of them holds

abbrev pub ordered_images : List OrderedBytes
ordered_images =
    -- 2 and 3
    two_faults (take 547 (over worked_image 3 (0x67 ∷ []))) (refuse_at 2 0 0) 3
    -- 3 and 4
    ∷ two_faults (over worked_image 3 (0x67 ∷ 0 ∷ 5 ∷ [])) (refuse_at 3 0 0) 4
    -- 4 and 5
    ∷ two_faults (over worked_image 5 (5 ∷ replicate 21 0 ++ 1 ∷ [])) (refuse_at 4 0 4) 5
    -- 5, and 6 at section 0
    ∷ two_faults (over worked_image 27 (1 ∷ replicate 6 0 ++ 2 ∷ 0x23 ∷ [])) (refuse_at 5 0 26) 6
    -- 6 and 20 at section 1
    ∷ two_faults (over worked_image 42 (2 ∷ 0x30 ∷ [])) (refuse_at 6 1 36) 20
    -- 20 and 7 at section 1
    ∷ two_faults (over (over worked_image 42 (2 ∷ 0x32 ∷ [])) 299 (0xff ∷ [])) (refuse_at 20 1 36) 7
    -- 7 and 8 at section 2
    ∷ two_faults (over worked_image 307 (1 ∷ [])) (refuse_at 7 2 44) 8
    -- 8 and 9 at section 1
    ∷ two_faults (over worked_image 562 (6 ∷ replicate 9 0 ++ 2 ∷ [])) (refuse_at 8 1 561) 9
    -- 8 and 10 at section 0
    ∷ two_faults (over worked_image 549 (3 ∷ replicate 9 0 ++ 2 ∷ [])) (refuse_at 8 0 548) 10
    -- 8 and 11 at section 2
    ∷ two_faults (over worked_image 575 (1 ∷ replicate 9 0 ++ 1 ∷ [])) (refuse_at 8 2 574) 11
    -- 9 at section 1, and 6 at section 2
    ∷ two_faults (over (over worked_image 562 (6 ∷ [])) 50 (2 ∷ 0x3d ∷ [])) (refuse_at 9 1 561) 6
    -- 10 at section 0, and 6 at section 1
    ∷ two_faults (over (over worked_image 549 (3 ∷ [])) 42 (2 ∷ 0x30 ∷ [])) (refuse_at 10 0 548) 6
    -- 11 at section 1, and 6 at section 2
    ∷ two_faults (over (over worked_image 562 (1 ∷ [])) 50 (2 ∷ 0x3d ∷ [])) (refuse_at 11 1 561) 6
    -- 9 at the last section, and 12
    ∷ two_faults (over (over worked_image 562 (3 ∷ [])) 575 (6 ∷ [])) (refuse_at 9 2 574) 12
    -- 10 at the last section, and 12
    ∷ two_faults (take 574 (over (over (over worked_image 549 (2 ∷ [])) 562 (3 ∷ [])) 27 (2 ∷ []))) (refuse_at 10 1 561) 12
    -- 11 at the last section, and 12
    ∷ two_faults (over (over worked_image 562 (3 ∷ [])) 575 (1 ∷ [])) (refuse_at 11 2 574) 12
    -- 12, and 20 after the last section
    ∷ two_faults (over worked_image 562 (3 ∷ []) ++ 0 ∷ []) (refuse_at 12 0 26) 20
    -- 20 after the last section, and 13
    ∷ two_faults (worked_image ++ 0 ∷ []) (refuse_at 20 0 586) 13
    ∷ []

pub images_in_order :
    map (λ (r : OrderedBytes). verdict_in (view_of r.bytes) 0) ordered_images ≡ map (λ (r : OrderedBytes). r.verdict) ordered_images
unfolding over verdict_in early judged position_in header_fault field_fault first_refusal section_fault entry_fault allowed_in order_fault seen missing_fault tail_fault missing checksum_fault field be_value
images_in_order = refl

pub images_by_two :
    map (λ (r : OrderedBytes). first_two (view_rules (view_of r.bytes) 0)) ordered_images ≡ map numbers_of ordered_images
unfolding over view_rules header_rules section_rules type_rules order_rules join_from allowed_in seen missing field be_value
images_by_two = refl

-- 1 and 3, and 1 on both sides of the limit: bytes of the worked image in a file of another size
abbrev view_of_size : ℕ → List ℕ → View
view_of_size n s =
    record {
      size = n;
      header = (view_of s).header;
      kind = (view_of s).kind;
      flags = (view_of s).flags;
      own_size = (view_of s).own_size;
    }

pub limit_of_an_image :
    (verdict_in (view_of_size 1073741825 (over worked_image 3 (0x67 ∷ []))) 0 ≡ refuse_at 1 0 0)
    × (first_two (view_rules (view_of_size 1073741825 (over worked_image 3 (0x67 ∷ []))) 0) ≡ 1 ∷ 3 ∷ [])
    × (verdict_in (view_of_size 1073741824 worked_image) 0 ≡ refuse_at 20 0 586)
unfolding over verdict_in early judged position_in header_fault field_fault first_refusal section_fault entry_fault allowed_in order_fault seen missing_fault tail_fault missing field be_value view_rules header_rules section_rules type_rules order_rules join_from
limit_of_an_image = (refl, refl, refl)

-- ---- copying from a stream and writing a roll: 13, the image's last rule, and 19 or 14

other_refused : verdict_of other_checksum ≡ refuse_at 13 0 544
unfolding over verdict_in early judged position_in header_fault field_fault first_refusal section_fault entry_fault allowed_in order_fault seen missing_fault tail_fault missing checksum_fault field be_value checksum_of
other_refused = ap (λ (sum : ℕ). verdict_in (view_of other_checksum) sum) worked_checksum

pub copy_after_image : (past_end (stream_of other_checksum Whole) 3 ≡ refuse_at 19 0 0) × (copy_verdict other_checksum Whole 3 ≡ refuse_at 13 0 544)
unfolding copy_verdict stream_of kept keeps over field be_value
copy_after_image = (refl, ap (λ (v : Verdict). and_then v (past_end (stream_of other_checksum Whole) 3)) other_refused)

pub roll_after_image : (room_verdict 53 (length (roll_bytes other_checksum)) ≡ refuse_at 14 0 0) × (roll_verdict other_checksum 53 ≡ refuse_at 13 0 544)
unfolding roll_verdict roll_bytes flags_record roll_of head_of measured_in over field be_value
roll_after_image = (refl, ap (λ (v : Verdict). and_then v (room_verdict 53 (length (roll_bytes other_checksum)))) other_refused)

-- ---- reading a roll

abbrev pub ordered_rolls : List OrderedBytes
ordered_rolls =
    -- of the flags record 16 and 17
    two_faults [] (refuse_at 16 0 0) 17
    -- 17 and 16, its data cut
    ∷ two_faults (head_of 3 256) (refuse_at 17 0 0) 16
    -- 16, its data cut, and 16 at record 1
    ∷ two_faults (take 11 worked_roll) (refuse_at 16 0 0) 16
    -- 16 and 17 at record 1
    ∷ two_faults (no_flags ++ replicate 9 0xff) (refuse_at 16 1 12) 17
    -- 17 and 5 at record 33
    ∷ two_faults (full_roll ++ head_of 0 4) (refuse_at 17 33 334) 5
    -- 17 at a record of type 0, and 18
    ∷ two_faults (no_flags ++ head_of 1 0 ++ (0 ∷ 0 ∷ [])) (refuse_at 17 1 12) 18
    -- 5 and 16 at record 33
    ∷ two_faults (full_roll ++ head_of 1 3) (refuse_at 5 0 334) 16
    -- 16 and 10 at record 1
    ∷ two_faults (no_flags ++ head_of 1 3) (refuse_at 16 1 12) 10
    -- 16 and 11 at record 2
    ∷ two_faults (no_flags ++ kernel_record ++ head_of 1 1) (refuse_at 16 2 23) 11
    -- 10 at record 1, and 16 at record 2
    ∷ two_faults (no_flags ++ ramdisk_record) (refuse_at 10 1 12) 16
    -- 11 at record 2, and 16 at record 3
    ∷ two_faults (no_flags ++ kernel_record ++ kernel_record) (refuse_at 11 2 23) 16
    -- 18 and 12
    ∷ two_faults (no_flags ++ end_record ++ (0 ∷ [])) (refuse_at 18 0 22) 12
    ∷ []

pub rolls_in_order : map (λ (r : OrderedBytes). (read_roll r.bytes).verdict) ordered_rolls ≡ map (λ (r : OrderedBytes). r.verdict) ordered_rolls
unfolding head_of flags_record flags_fault read_rest read_roll end_from record_at le_field seen order_fault missing head_fault body_fault packed_by roll_fault in_table
rolls_in_order = refl

pub rolls_by_two : map (λ (r : OrderedBytes). first_two (roll_rules r.bytes)) ordered_rolls ≡ map numbers_of ordered_rolls
unfolding head_of flags_record flags_rules head_rules body_rules end_rules roll_rules_from order_rules record_at le_field seen packed_by
rolls_by_two = refl

-- 12 and 1 of the records before an end record. A roll to which both apply has almost 1 GiB; a head alone is computed here.
pub long_roll_in_order : (roll_fault (head_of 1073741824 3) 1 ≡ 12) × (first_two (end_rules (head_of 1073741824 3) 1) ≡ 12 ∷ 1 ∷ [])
unfolding head_of end_rules record_at le_field seen packed_by roll_fault
long_roll_in_order = (refl, refl)

-- 1 on both sides of the limit
pub limit_of_a_roll :
    (first_two (end_rules (head_of 1073741264 3) 1) ≡ 12 ∷ []) × (first_two (end_rules (head_of 1073741265 3) 1) ≡ 12 ∷ 1 ∷ [])
unfolding head_of end_rules record_at le_field seen packed_by
limit_of_a_roll = (refl, refl)

-- ---- writing an image: a plan, with no data and no room

pub record OrderedPlan : Type 0 where
  pub plan : Plan
  pub verdict : Verdict
  pub next : ℕ

abbrev ordered_plan : Plan → Verdict → ℕ → OrderedPlan
ordered_plan plan verdict next = record { plan = plan; verdict = verdict; next = next }

abbrev pub ordered_plans : List OrderedPlan
ordered_plans =
    -- 4 and 5
    ordered_plan (plan_over 5 (worked_place 1 0 ∷ [])) (refuse_at 4 0 0) 5
    -- 5, and 9 at section 0
    ∷ ordered_plan (plan_over 2 (worked_place 6 0 ∷ [])) (refuse_at 5 0 0) 9
    -- 5, and 10 at section 0; 5 and 11 need 33 sections, of which a plan holds 32
    ∷ ordered_plan (plan_over 2 (worked_place 3 0 ∷ [])) (refuse_at 5 0 0) 10
    -- 9 at section 0, and 9 at section 1
    ∷ ordered_plan (plan_over 2 (worked_place 6 0 ∷ worked_place 6 0 ∷ [])) (refuse_at 9 0 0) 9
    -- 9 at section 0, and 10 at section 1
    ∷ ordered_plan (plan_over 2 (worked_place 6 0 ∷ worked_place 3 0 ∷ [])) (refuse_at 9 0 0) 10
    -- 10 at section 0, and 9 at section 1
    ∷ ordered_plan (plan_over 2 (worked_place 3 0 ∷ worked_place 6 0 ∷ [])) (refuse_at 10 0 0) 9
    -- 11 at section 1, and 9 at section 2
    ∷ ordered_plan (plan_over 2 (worked_place 1 0 ∷ worked_place 1 0 ∷ worked_place 6 0 ∷ [])) (refuse_at 11 1 0) 9
    -- 9 at the last section, and 12
    ∷ ordered_plan (plan_over 2 (worked_place 1 0 ∷ worked_place 6 0 ∷ [])) (refuse_at 9 1 0) 12
    -- 10 at the last section, and 12
    ∷ ordered_plan (plan_over 2 (worked_place 2 0 ∷ worked_place 3 0 ∷ [])) (refuse_at 10 1 0) 12
    -- 11 at the last section, and 12
    ∷ ordered_plan (plan_over 2 (worked_place 1 0 ∷ worked_place 1 0 ∷ [])) (refuse_at 11 1 0) 12
    -- 12 and 1
    ∷ ordered_plan (plan_over 2 (worked_place 1 1073741824 ∷ worked_place 3 0 ∷ [])) (refuse_at 12 0 0) 1
    -- 1 and 15
    ∷ ordered_plan (plan_over 2 (worked_place 1 1073741824 ∷ worked_place 2 0 ∷ [])) (refuse_at 1 0 0) 15
    -- 15 and 14
    ∷ ordered_plan (plan_over 2 (worked_place 1 1 ∷ worked_place 2 0 ∷ [])) (refuse_at 15 0 0) 14
    ∷ []

pub plans_in_order : map (λ (r : OrderedPlan). write_verdict r.plan 0 0) ordered_plans ≡ map (λ (r : OrderedPlan). r.verdict) ordered_plans
unfolding in_table write_verdict plan_verdict field_fault first_refusal type_fault allowed_in order_fault seen types_verdict size_fault missing_fault missing packed_by data_before
plans_in_order = refl

pub plans_by_two :
    map (λ (r : OrderedPlan). first_two (write_rules r.plan 0 0)) ordered_plans ≡ map (λ (r : OrderedPlan). number_of r.verdict ∷ r.next ∷ []) ordered_plans
unfolding in_table write_rules plan_rules type_rules order_rules join_from allowed_in seen missing packed_by data_before
plans_by_two = refl
