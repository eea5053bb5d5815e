-- The roll from an image's own reading is the image's roll: both forms agree, for every image.
use Prim.Native.Nat.{ℕ, ◌≤◌}
use mathlib.Core.Path.{◌≡◌, refl, ap, ap₂, ◌∙◌}
use mathlib.Core.List.{List, [], ◌++◌}
use native.Mathlib.Omega.{arith}
use lib.ListN.{length, drop, length-take, length-drop}
use Rattle.eif.specs.Answers.{and_then}
use Rattle.eif.specs.Numbers.{size_limit, place_count}
use Rattle.eif.specs.Layout.{count_of}
use Rattle.eif.specs.Output.{room_verdict, written_for, output_for}
use Rattle.eif.specs.Reading.{blank_section, section_at, data_of, read_image}
use Rattle.eif.specs.Roll.{flags_record, roll_of, roll_bytes, records_by, roll_verdict, roll_answer, roll_output, roll_length}
use Rattle.eif.specs.declared.Reading.{Reading}
use Rattle.eif.specs.declared.Section.{Section}
use Rattle.eif.specs.declared.Verdict.{Verdict}
use Rattle.eif.specs.declared.Verdict.TheVariants.{Accepted}
use Rattle.eif_lemmas.proofs.Reading.{verdict_is, told_accepted, flags_are, sections_are}
use Rattle.eif_lemmas.proofs.Table.{length_filled}
use Rattle.eif_lemmas.proofs.Accept.{passes}
use Rattle.staged.specs.View.{held_by}
use Rattle.staged.proofs.Held.{held_alone}
use Rattle.roll_writer.specs.Write.{sections_roll, listed_roll_bytes, listed_roll_answer, listed_roll_output, listed_roll_length}
use Rattle.roll_writer.proofs.Steps.{size_bound, roll_short}
use Rattle.roll_writer.proofs.After.{same_written, same_output, same_length}

-- with nothing replaced, the roll over the sections is that over the image
pub roll_alone : (s : List ℕ) (flags : ℕ) (l : List Section) → sections_roll flags (held_by s []) l ≡ sections_roll flags (data_of s) l
roll_alone s flags l = ap (λ (held : Section → List ℕ). sections_roll flags held l) (λ t x. held_alone s x t)

module _ (s : List ℕ) (r : Reading) (is : r ≡ read_image s) where
  module _ (told : r.verdict ≡ Accepted) where
    pub roll_is : listed_roll_bytes s r ≡ roll_bytes s
    unfolding sections_roll roll_bytes
    roll_is =
        ap₂ (λ (f : ℕ) (l : List Section). flags_record f ++ roll_of (records_by (data_of s) l)) (flags_are s r is told) (sections_are s r is told)

    pub bounded : length (listed_roll_bytes s r) ≤ size_bound
    bounded =
        let small = (passes s (told_accepted s r is told)).head.small in
        let n = ap length (sections_are s r is told) ∙ length_filled (section_at s) blank_section place_count (count_of s) in
        let data-short : (x : Section) → length (data_of s x) ≤ size_limit = λ x. (let a = length-take x.length.0 (drop x.position.0 s) in let b = length-drop x.position.0 s in omega arith) in
        roll_short (data_of s) data-short r.flags r.sections n

  pub answer_is : (room : ℕ) → listed_roll_answer s r room ≡ roll_answer s room
  unfolding listed_roll_answer roll_answer roll_verdict
  answer_is room =
      same_written r.verdict (listed_roll_bytes s r) (roll_bytes s) roll_is room
      ∙ ap (λ (v : Verdict). written_for (and_then v (room_verdict room (length (roll_bytes s)))) (length (roll_bytes s))) (verdict_is s r is)

  pub output_is : (d : List ℕ) → listed_roll_output s r d ≡ roll_output s d
  unfolding listed_roll_output roll_output roll_verdict
  output_is d =
      same_output r.verdict (listed_roll_bytes s r) (roll_bytes s) roll_is d
      ∙ ap (λ (v : Verdict). output_for (and_then v (room_verdict (length d) (length (roll_bytes s)))) (roll_bytes s) d) (verdict_is s r is)

  pub length_is : listed_roll_length s r ≡ roll_length s
  unfolding listed_roll_length roll_length
  length_is =
      same_length r.verdict (listed_roll_bytes s r) (roll_bytes s) roll_is (λ told. omega (arith, bounded told))
      ∙ ap (λ (v : Verdict). written_for v (length (roll_bytes s))) (verdict_is s r is)

-- ---- both forms agree, for every image

module _ (s : List ℕ) where
  pub write_agrees : (room : ℕ) → listed_roll_answer s (read_image s) room ≡ roll_answer s room
  write_agrees = answer_is s (read_image s) refl

  pub output_agrees : (d : List ℕ) → listed_roll_output s (read_image s) d ≡ roll_output s d
  output_agrees = output_is s (read_image s) refl

  pub length_agrees : listed_roll_length s (read_image s) ≡ roll_length s
  length_agrees = length_is s (read_image s) refl
