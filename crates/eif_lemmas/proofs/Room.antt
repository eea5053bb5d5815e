-- Rule 14 after another verdict, and what a writer then answers and leaves in its buffer. Assumes nothing.
use Prim.Native.Nat.{ℕ, ◌<◌, ◌≤◌}
use mathlib.Core.Path.{◌≡◌, sym, ap, ◌∙◌}
use mathlib.Core.List.{List}
use borrow.Author.Tests.{lt-ltb, le-ltb}
use lib.ListN.{length}
use Rattle.octets.specs.Over.{over}
use Rattle.eif.specs.Numbers.{output_too_short}
use Rattle.eif.specs.Answers.{refuse, and_then}
use Rattle.eif.specs.Output.{room_verdict, written_for, output_for}
use Rattle.eif.specs.declared.Refusal.{Refusal}
use Rattle.eif.specs.declared.Written.{Written}
use Rattle.eif.specs.declared.Verdict.{Verdict}
use Rattle.eif.specs.declared.Verdict.TheVariants.{Accepted, Refused}
use Rattle.eif_lemmas.proofs.Verdicts.{then_none}

-- ---- the verdict, with so many bytes of room and so many to write

module _ (v : Verdict) (room size : ℕ) where
  -- were there room, 14 is never added
  pub room_enough : size ≤ room → and_then v (room_verdict room size) ≡ v
  room_enough h = ap (and_then v) (simp (le-ltb _ _ h)) ∙ then_none v

  pub room_handed_on : (r : Refusal) → v ≡ Refused r → and_then v (room_verdict room size) ≡ Refused r
  room_handed_on r e = ap (λ (x : Verdict). and_then x (room_verdict room size)) e

  module _ (ok : v ≡ Accepted) where
    pub room_next : and_then v (room_verdict room size) ≡ room_verdict room size
    room_next = ap (λ (x : Verdict). and_then x (room_verdict room size)) ok

    pub room_fine : size ≤ room → and_then v (room_verdict room size) ≡ Accepted
    room_fine h = room_enough h ∙ ok

    pub room_short : room < size → and_then v (room_verdict room size) ≡ refuse output_too_short 0
    room_short h = room_next ∙ simp (lt-ltb _ _ h)

-- ---- the answer and the buffer d after it, with so many bytes to write, which are these

module _ (v : Verdict) (size : ℕ) (bytes d : List ℕ) where
  -- the answer is w, and the buffer is o
  abbrev pub Wrote : Written → List ℕ → Type 0
  Wrote w o =
      (w ≡ written_for (and_then v (room_verdict (length d) size)) size) × (o ≡ output_for (and_then v (room_verdict (length d) size)) bytes d)

  wrote : (x : Verdict) → and_then v (room_verdict (length d) size) ≡ x → Wrote (written_for x size) (output_for x bytes d)
  wrote x e = (ap (λ (y : Verdict). written_for y size) (sym e), ap (λ (y : Verdict). output_for y bytes d) (sym e))

  pub wrote_refused : (r : Refusal) → v ≡ Refused r → Wrote (written_for (Refused r) 0) d
  wrote_refused r e = wrote (Refused r) (room_handed_on v (length d) size r e)

  module _ (ok : v ≡ Accepted) where
    pub wrote_next : Wrote (written_for (room_verdict (length d) size) size) (output_for (room_verdict (length d) size) bytes d)
    wrote_next = wrote (room_verdict (length d) size) (room_next v (length d) size ok)

    pub wrote_short : length d < size → Wrote (written_for (refuse output_too_short 0) 0) d
    wrote_short h = wrote (refuse output_too_short 0) (room_short v (length d) size ok h)

    pub wrote_fine : size ≤ length d → Wrote (written_for Accepted size) (over d 0 bytes)
    wrote_fine h = wrote Accepted (room_fine v (length d) size ok h)
