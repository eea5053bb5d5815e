-- The computed roll of the worked example of FORMAT.md while it arrives (flags 0, kernel 4b, command line 61, an empty ramdisk).
use Rattle.std.specs.Prelude.{ℕ, ◌≡◌, refl, List, [], ◌∷◌, ◌++◌, map, take, drop, replicate}
use Rattle.octets.specs.Bytes.{field, be_value}
use Rattle.octets.specs.Over.{over}
use Rattle.eif.specs.Roll.{head_of, flags_record, end_type}
use Rattle.eif.specs.Rows.{worked_roll}
use Rattle.eif.specs.Table.{join_from}
use Rattle.eif.specs.Worked.{worked_image}
use Rattle.arriving_sections.specs.Worked.{hostile_headers}
use Rattle.arriving_sections_laws.specs.Given.{ordered_from, data_so_far}
use Rattle.arriving_fingerprint_laws.specs.Roll.{record_so_far, flags_so_far, roll_so_far}

-- the flags record, and the head of the kernel's record
abbrev flags_bytes : List ℕ
flags_bytes = 2 ∷ replicate 7 0 ++ 0 ∷ 1 ∷ 0 ∷ 0 ∷ []

abbrev kernel_head : List ℕ
kernel_head = 1 ∷ replicate 7 0 ++ 1 ∷ 0 ∷ []

-- after 547, 548, 559, 560 and 561 bytes: the flags record comes with the last byte of the header, a head with the last byte of the section's
-- own header
pub arrived_roll :
    map (λ (n : ℕ). roll_so_far (take n worked_image)) (547 ∷ 548 ∷ 559 ∷ 560 ∷ 561 ∷ [])
    ≡ [] ∷ flags_bytes ∷ flags_bytes ∷ (flags_bytes ++ kernel_head) ∷ (flags_bytes ++ kernel_head ++ 0x4b ∷ []) ∷ []
unfolding roll_so_far flags_so_far record_so_far join_from head_of flags_record data_so_far ordered_from field be_value
arrived_roll = refl

-- the whole image and the end record give the worked roll; the empty ramdisk has its head
pub whole_roll : roll_so_far worked_image ++ head_of 0 end_type ≡ worked_roll
unfolding roll_so_far flags_so_far record_so_far join_from head_of flags_record data_so_far ordered_from field be_value
whole_roll = refl

-- refused tables: a section that is not in order has no record, although its bytes are there
pub hostile_roll :
    map (λ (header : List ℕ). roll_so_far (header ++ drop 548 worked_image)) hostile_headers ≡ flags_bytes ∷ (flags_bytes ++ kernel_head ++ 0x4b ∷ []) ∷ []
unfolding over roll_so_far flags_so_far record_so_far join_from head_of flags_record data_so_far ordered_from field be_value
hostile_roll = refl
