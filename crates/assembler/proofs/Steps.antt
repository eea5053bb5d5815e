-- What a call answers, and both buffers after it, by the verdict and the record's kind. Assumes nothing.
use Prim.Native.Nat.{ℕ}
use mathlib.Core.Path.{◌≡◌, refl, ◌∙◌}
use mathlib.Core.Bool.{false}
use mathlib.Core.List.{List}
use borrow.Author.Tests.{ne_eqb}
use lib.Dec.{eqb}
use lib.ListN.{length, replicate}
use Rattle.octets.specs.Over.{over}
use Rattle.eif.specs.Answers.{refuse}
use Rattle.eif.specs.declared.Verdict.TheVariants.{Accepted}
use Rattle.assembler.specs.Records.{open_kind, piece_kind, close_kind, kind_in, number_in, pieces_of}
use Rattle.assembler.specs.Rules.{fault_of}
use Rattle.assembler.specs.Step.{fresh_state, open_state, stepped, step_answer, image_after, marks_after, piece_written, piece_marked}
use Rattle.assembler.specs.declared.State.{State}
use Rattle.assembler.specs.declared.Stepped.{Stepped}

module _ (st : State) (r x y : List ℕ) where
  -- the answer is w, the image buffer then e and the mark buffer f
  abbrev pub StepAnswers : Stepped → List ℕ → List ℕ → Type 0
  StepAnswers w e f = (w ≡ step_answer st r x y) × (e ≡ image_after st r x y) × (f ≡ marks_after st r x y)

  pub step_refused : (n : ℕ) → n ≡ fault_of st r x y → (n ≡ 0 → ⊥) → StepAnswers (stepped (refuse n 0) st 0) x y
  unfolding step_answer image_after marks_after
  step_refused n e h =
      let g : eqb (fault_of st r x y) 0 ≡ false = ne_eqb _ _ (λ z. h (e ∙ z)) in
      (rw e (simp g), simp g, simp g)

  module _ (z : fault_of st r x y ≡ 0) where
    pub step_opened : kind_in r ≡ open_kind
        → StepAnswers (stepped Accepted (open_state (number_in r) (length x) (length y)) 0) x (over y 0 (replicate (pieces_of (number_in r)) 0))
    unfolding step_answer image_after marks_after
    step_opened k = (rw (z, k) refl, rw (z, k) refl, rw (z, k) refl)

    pub step_taken : kind_in r ≡ piece_kind → StepAnswers (stepped Accepted st 0) (piece_written r x y) (piece_marked r y)
    unfolding step_answer image_after marks_after
    step_taken k = (rw (z, k) refl, rw (z, k) refl, rw (z, k) refl)

    pub step_closed : kind_in r ≡ close_kind → StepAnswers (stepped Accepted fresh_state st.length) x y
    unfolding step_answer image_after marks_after
    step_closed k = (rw (z, k) refl, rw (z, k) refl, rw (z, k) refl)
