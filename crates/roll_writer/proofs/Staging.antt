-- The roll from the staged view of a base is that of the image written afresh: both forms agree, for every base of bytes.
use Prim.Native.Nat.{ℕ, ◌^◌, ◌<◌, ◌≤◌}
use mathlib.Core.Path.{◌≡◌, refl, sym, ap, ap₂, ◌∙◌}
use mathlib.Core.List.{List}
use native.Mathlib.Omega.{arith}
use lib.ListN.{length}
use Rattle.octets.specs.Bytes.{AreBytes}
use Rattle.octets.proofs.Value.{field_lt}
use Rattle.eif.specs.Answers.{and_then}
use Rattle.eif.specs.Layout.{header_flags_at}
use Rattle.eif.specs.Output.{room_verdict, written_for, output_for}
use Rattle.eif.specs.Reading.{read_image}
use Rattle.eif.specs.Roll.{roll_bytes}
use Rattle.eif.specs.declared.Section.{Section}
use Rattle.eif.specs.declared.Verdict.{Verdict}
use Rattle.eif.specs.declared.Verdict.TheVariants.{Accepted}
use Rattle.staged.specs.Staged.{afresh, staged_verdict, staged_roll_verdict, staged_roll_answer, staged_roll_output, staged_roll_length}
use Rattle.staged.specs.View.{held_by, staged_view}
use Rattle.staged.specs.declared.Staged.{Staged}
use Rattle.staged.proofs.Accept.{Stages, staged→, base_flags}
use Rattle.staged.proofs.Held.{listed_long, held_short}
use Rattle.staged.proofs.Held as held
use Rattle.staged_view.proofs.View.{view_verdict_holds, view_sections, view_flags}
use Rattle.roll_writer.specs.Write.{sections_roll, view_roll_bytes, view_roll_answer, view_roll_output, view_roll_length}
use Rattle.roll_writer.proofs.Steps.{size_bound, roll_short}
use Rattle.roll_writer.proofs.After.{same_written, same_output, same_length}

module _ (s r : List ℕ) (k : ℕ) (x : Staged) (is : x ≡ staged_view s (length r) k k) where
  pub verdict_is : x.verdict ≡ staged_verdict s (length r) k k
  verdict_is = view_verdict_holds s (length r) k k x is

  module _ (told : x.verdict ≡ Accepted) where
    stages : Stages s (length r) k k
    stages = staged→ s (length r) k k (sym verdict_is ∙ told)

    sections_are : x.sections ≡ held.staged_list s r k k stages
    sections_are = view_sections s (length r) k k x is told

    pub bounded : length (view_roll_bytes s r x) ≤ size_bound
    bounded = roll_short (held_by s r) (held_short s r k k stages) x.flags x.sections (ap length sections_are ∙ listed_long s r k k stages)

  -- the flags fit in two bytes
  module _ (fit : x.verdict ≡ Accepted → x.flags < 2 ^ 16) where
    pub roll_is : x.verdict ≡ Accepted → view_roll_bytes s r x ≡ roll_bytes (afresh s r k)
    unfolding sections_roll
    roll_is told =
        let f = view_flags s (length r) k k x is told in
        let g : (read_image s).flags < 2 ^ 16 = rw (sym f) (fit told) in
        ap₂ (λ (n : ℕ) (l : List Section). sections_roll n (held_by s r) l) f (sections_are told) ∙ held.roll_is s r k k (stages told) g

    pub answer_is : (room : ℕ) → view_roll_answer s r x room ≡ staged_roll_answer s r k room
    unfolding view_roll_answer staged_roll_answer staged_roll_verdict
    answer_is room =
        same_written x.verdict (view_roll_bytes s r x) (roll_bytes (afresh s r k)) roll_is room
        ∙ ap (λ (v : Verdict). written_for (and_then v (room_verdict room (length (roll_bytes (afresh s r k))))) (length (roll_bytes (afresh s r k)))) verdict_is

    pub output_is : (d : List ℕ) → view_roll_output s r x d ≡ staged_roll_output s r k d
    unfolding view_roll_output staged_roll_output staged_roll_verdict
    output_is d =
        same_output x.verdict (view_roll_bytes s r x) (roll_bytes (afresh s r k)) roll_is d
        ∙ ap (λ (v : Verdict). output_for (and_then v (room_verdict (length d) (length (roll_bytes (afresh s r k))))) (roll_bytes (afresh s r k)) d) verdict_is

    pub length_is : view_roll_length s r x ≡ staged_roll_length s r k
    unfolding view_roll_length staged_roll_length
    length_is =
        same_length x.verdict (view_roll_bytes s r x) (roll_bytes (afresh s r k)) roll_is (λ told. omega (arith, bounded told))
        ∙ ap (λ (v : Verdict). written_for v (length (roll_bytes (afresh s r k)))) verdict_is

-- ---- both forms agree, for every base of bytes and every replacement

module _ (s r : List ℕ) (k : ℕ) (ws : AreBytes s) where
  abbrev view : Staged
  view = staged_view s (length r) k k

  pub flags_fit : view.verdict ≡ Accepted → view.flags < 2 ^ 16
  flags_fit told =
      let e = view_flags s (length r) k k view refl told ∙ base_flags s (staged→ s (length r) k k (sym (verdict_is s r k view refl) ∙ told)).accepted in
      let h = field_lt 2 header_flags_at s ws in
      omega arith

  pub write_agrees : (room : ℕ) → view_roll_answer s r (staged_view s (length r) k k) room ≡ staged_roll_answer s r k room
  write_agrees = answer_is s r k view refl flags_fit

  pub output_agrees : (d : List ℕ) → view_roll_output s r (staged_view s (length r) k k) d ≡ staged_roll_output s r k d
  output_agrees = output_is s r k view refl flags_fit

  pub length_agrees : view_roll_length s r (staged_view s (length r) k k) ≡ staged_roll_length s r k
  length_agrees = length_is s r k view refl flags_fit
