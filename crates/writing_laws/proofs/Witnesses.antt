-- Runs of steps by computation: one that completes the image of the worked example, and runs that do not. Lengths and data, and the bytes of the complete run.
use Prim.Native.Nat.{ℕ}
use mathlib.Core.Path.{◌≡◌, refl}
use mathlib.Core.List.{List, [], ◌∷◌}
use lib.ListN.{length}
use Rattle.eif.specs.Answers.{number_of}
use Rattle.eif.specs.Layout.{packed_by}
use Rattle.eif.specs.Plan.{data_before, plain_size, fixed_fields, table_bytes, header_bytes, section_header, plan_verdict, plan_length, size_fault}
use Rattle.eif.specs.Rules.{field_fault, first_refusal, type_fault, allowed_in, order_fault, seen, types_verdict, missing_fault, missing}
use Rattle.eif.specs.Table.{in_table, join_from}
use Rattle.eif.specs.Worked.{worked_plan}
use Rattle.writing.specs.Writing.{start_writing, writing_begun, data_step, data_bytes, header_step, header_part, begins_section, section_step, next_header, writing_stepped, step_bytes}
use Rattle.writing_laws.specs.Runs.{WriteStep, after_steps, data_taken, bytes_written, run_data, run_bytes, image_with}

-- a step that is lent two bytes and has this room
abbrev lent_two : ℕ → WriteStep
lent_two room = record { lent = 0x4b ∷ 0x61 ∷ []; room = room }

abbrev lent_one : ℕ → WriteStep
lent_one room = record { lent = 0x61 ∷ []; room = room }

-- header in two steps, own headers, data in two steps
abbrev complete_run : List WriteStep
complete_run = lent_two 300 ∷ lent_two 1000 ∷ lent_two 12 ∷ lent_two 1000 ∷ lent_one 1000 ∷ lent_one 5 ∷ lent_one 12 ∷ []

-- begin accepts the plan of the worked example
begin_accepts : number_of (plan_length worked_plan).verdict ≡ 0
unfolding in_table plan_length plan_verdict field_fault first_refusal type_fault allowed_in order_fault seen types_verdict size_fault missing_fault missing packed_by data_before
begin_accepts = refl

-- complete: as many bytes as the image has. Not complete: no step, the header alone, and no room for an own header
run_lengths :
    plain_size worked_plan ∷ length (run_bytes worked_plan 0 complete_run) ∷ length (run_bytes worked_plan 0 []) ∷ length (run_bytes worked_plan 0 (lent_two 1000 ∷ []))
    ∷ length (run_bytes worked_plan 0 (lent_two 1000 ∷ lent_two 11 ∷ lent_two 11 ∷ [])) ∷ []
    ≡ 586 ∷ 586 ∷ 0 ∷ 548 ∷ 548 ∷ []
unfolding in_table plan_length plan_verdict field_fault first_refusal type_fault allowed_in order_fault seen types_verdict size_fault missing_fault missing packed_by data_before writing_begun start_writing header_bytes fixed_fields table_bytes join_from section_header data_step data_bytes header_step header_part begins_section section_step next_header writing_stepped step_bytes after_steps data_taken bytes_written
run_lengths = refl

-- the complete run takes both bytes of data, and writes the image with 0 in its checksum field
run_data_holds : run_data worked_plan 0 complete_run ≡ 0x4b ∷ 0x61 ∷ []
unfolding in_table plan_length plan_verdict field_fault first_refusal type_fault allowed_in order_fault seen types_verdict size_fault missing_fault missing packed_by data_before writing_begun start_writing header_bytes fixed_fields table_bytes join_from section_header data_step data_bytes header_step header_part begins_section section_step next_header writing_stepped step_bytes after_steps data_taken bytes_written
run_data_holds = refl

run_bytes_holds : run_bytes worked_plan 0 complete_run ≡ image_with worked_plan 0 (0x4b ∷ 0x61 ∷ [])
unfolding in_table plan_length plan_verdict field_fault first_refusal type_fault allowed_in order_fault seen types_verdict size_fault missing_fault missing packed_by data_before writing_begun start_writing header_bytes fixed_fields table_bytes join_from section_header data_step data_bytes header_step header_part begins_section section_step next_header writing_stepped step_bytes after_steps data_taken bytes_written image_with
run_bytes_holds = refl
