-- The worked example of FORMAT.md, The boot roll: what rests on its checksum. It is the one that other programs compute; it is computed once,
-- and the verdicts cite it. Assumes nothing.
use Rattle.std.specs.Prelude.{ℕ, ◌≡◌, refl, [], ◌∷◌, ◌++◌, map, length}
use Rattle.std.proofs.Common.{ap}
use Rattle.eif.specs.Output.{room_verdict}
use Rattle.octets.specs.Bytes.{be_value, field}
use Rattle.octets.specs.Over.{over}
use Rattle.crc32.specs.Crc.{crc32, crc_from, shift_bits, shift_bit}
use Rattle.eif.specs.Rules.{allowed_in, seen, order_fault, missing, missing_fault, first_refusal, field_fault}
use Rattle.eif.specs.Answers.{refuse, and_then}
use Rattle.eif.specs.Layout.{view_of}
use Rattle.eif.specs.Reading.{header_fault, entry_fault, section_fault, tail_fault, checksum_fault, position_in, judged, early, verdict_in, checksum_of, verdict_of}
use Rattle.eif.specs.Roll.{head_of, flags_record, roll_of, measured_in, roll_bytes, roll_verdict}
use Rattle.eif.specs.Stream.{keeps, kept, stream_part, copy_verdict, copied_for, copy_answer, length_for, length_answer, stream_of, past_end}
use Rattle.eif.specs.declared.Stream.TheVariants.{Whole}
use Rattle.eif.specs.declared.Verdict.{Verdict}
use Rattle.eif.specs.declared.Verdict.TheVariants.{Accepted}
use Rattle.eif.specs.Worked.{RefusedImage, judged_before13, other_checksum, refused_images, worked_image}

pub worked_checksum : checksum_of worked_image ≡ 0x86c22731
unfolding checksum_of crc32 crc_from shift_bits shift_bit
worked_checksum = refl

pub worked_accepted : verdict_of worked_image ≡ Accepted
unfolding verdict_in early judged header_fault field_fault first_refusal section_fault entry_fault allowed_in order_fault seen missing_fault tail_fault missing checksum_fault field be_value
worked_accepted = ap (verdict_in (view_of worked_image)) worked_checksum

pub refusals_hold : map (λ (r : RefusedImage). verdict_of r.image) refused_images ≡ map (λ (r : RefusedImage). r.verdict) refused_images
unfolding over verdict_in early judged position_in header_fault field_fault first_refusal section_fault entry_fault allowed_in order_fault seen missing_fault tail_fault missing checksum_fault field be_value checksum_of
refusals_hold = ap (λ (sum : ℕ). map (λ (r : RefusedImage). verdict_of r.image) judged_before13 ++ verdict_in (view_of other_checksum) sum ∷ []) worked_checksum

pub roll_refused : roll_verdict worked_image 53 ≡ refuse 14 0
unfolding roll_verdict roll_bytes flags_record roll_of head_of measured_in field be_value
roll_refused = ap (λ (v : Verdict). and_then v (room_verdict 53 (length (roll_bytes worked_image)))) worked_accepted

pub copy_refused : copy_answer worked_image Whole 3 5 ≡ record { verdict = refuse 19 0; count = 0 }
unfolding copy_answer copy_verdict stream_of kept keeps field be_value
copy_refused = ap (λ (v : Verdict). copied_for (and_then v (past_end (stream_of worked_image Whole) 3)) (length (stream_part worked_image Whole 3 5))) worked_accepted

pub worked_stream_length : length_answer worked_image Whole ≡ record { verdict = Accepted; length = record { 0 = 2 } }
unfolding length_answer stream_of kept keeps field be_value
worked_stream_length = ap (λ (v : Verdict). length_for v (length (stream_of worked_image Whole))) worked_accepted
