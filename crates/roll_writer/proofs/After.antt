-- A roll after a verdict: what the code answers, and that two rolls of one accepted verdict, or two rolls after one refusal, give one answer.
use Prim.Native.Nat.{ℕ, ◌<◌, ◌≤◌, min}
use mathlib.Core.Path.{◌≡◌, refl, sym, ap, ◌∙◌}
use mathlib.Core.List.{List}
use native.Mathlib.Omega.{arith}
use lib.ListN.{length}
use Rattle.octets.specs.Over.{over}
use Rattle.eif.specs.Answers.{refuse, and_then}
use Rattle.eif.specs.Numbers.{output_too_short}
use Rattle.eif.specs.Output.{room_verdict, written_for, output_for}
use Rattle.eif.specs.declared.Refusal.{Refusal}
use Rattle.eif.specs.declared.Verdict.{Verdict}
use Rattle.eif.specs.declared.Verdict.TheVariants.{Accepted, Refused}
use Rattle.eif.specs.declared.Written.{Written}
use Rattle.eif_lemmas.proofs.Room.{wrote_refused, wrote_short, wrote_fine}
use Rattle.roll_writer.specs.Write.{written_after, output_after, count_most, length_after}

-- ---- what the code answers, and what it leaves in the buffer d

-- a verdict beside no byte
abbrev none : Verdict → Written
none v = record { verdict = v; length = 0 }

module _ (v : Verdict) (roll d : List ℕ) where
  abbrev Answers : Written → List ℕ → Type 0
  Answers w o = (w ≡ written_after v roll (length d)) × (o ≡ output_after v roll d)

  pub after_refused : (r : Refusal) → v ≡ Refused r → Answers (none v) d
  unfolding written_after output_after
  after_refused r e = let w = wrote_refused v (length roll) roll d r e in (ap none e ∙ w.0, w.1)

  module _ (ok : v ≡ Accepted) where
    pub after_short : length d < length roll → Answers (written_for (refuse output_too_short 0) 0) d
    unfolding written_after output_after
    after_short h = wrote_short v (length roll) roll d ok h

    pub after_fine : length roll ≤ length d → Answers (written_for Accepted (length roll)) (over d 0 roll)
    unfolding written_after output_after
    after_fine h = wrote_fine v (length roll) roll d ok h

pub length_refused : (v : Verdict) (roll : List ℕ) (r : Refusal) → v ≡ Refused r → none v ≡ length_after v roll
unfolding length_after
length_refused v roll r e = ap none e ∙ ap (λ (w : Verdict). written_for w (min (length roll) count_most)) (sym e)

pub length_accepted : (v : Verdict) (roll : List ℕ) → v ≡ Accepted → written_for Accepted (min (length roll) count_most) ≡ length_after v roll
unfolding length_after
length_accepted v roll e = ap (λ (w : Verdict). written_for w (min (length roll) count_most)) (sym e)

-- ---- two verdicts that are one, and two rolls that are one where it accepts

module _ (v : Verdict) (a b : List ℕ) (same : v ≡ Accepted → a ≡ b) where
  pub same_written : (room : ℕ) → written_after v a room ≡ written_for (and_then v (room_verdict room (length b))) (length b)
  unfolding written_after
  same_written room = by v same
    where
      by : (w : Verdict) → (w ≡ Accepted → a ≡ b)
          → written_for (and_then w (room_verdict room (length a))) (length a) ≡ written_for (and_then w (room_verdict room (length b))) (length b)
      by (Refused r) e = refl
      by Accepted e = ap (λ (l : List ℕ). written_for (room_verdict room (length l)) (length l)) (e refl)

  pub same_output : (d : List ℕ) → output_after v a d ≡ output_for (and_then v (room_verdict (length d) (length b))) b d
  unfolding output_after
  same_output d = by v same
    where
      by : (w : Verdict) → (w ≡ Accepted → a ≡ b)
          → output_for (and_then w (room_verdict (length d) (length a))) a d ≡ output_for (and_then w (room_verdict (length d) (length b))) b d
      by (Refused r) e = refl
      by Accepted e = ap (λ (l : List ℕ). output_for (room_verdict (length d) (length l)) l d) (e refl)

  pub same_length : (v ≡ Accepted → length a ≤ count_most) → length_after v a ≡ written_for v (length b)
  unfolding length_after
  same_length = by v same
    where
      by : (w : Verdict) → (w ≡ Accepted → a ≡ b) → (w ≡ Accepted → length a ≤ count_most) → written_for w (min (length a) count_most) ≡ written_for w (length b)
      by (Refused r) e h = refl
      by Accepted e h =
          let n : min (length a) count_most ≡ length a = let g = h refl in omega arith in
          ap (written_for Accepted) (n ∙ ap length (e refl))
