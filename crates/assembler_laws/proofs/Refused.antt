-- Records that are refused may come between: they leave no trace, so only those that are taken count.
-- Assumes nothing.
use Prim.Native.Nat.{ℕ}
use mathlib.Core.Path.{◌≡◌, refl, sym, ap, ◌∙◌}
use mathlib.Core.List.{List, [], ◌∷◌, ◌++◌}
use mathlib.Core.Logic.{⊎_elim}
use borrow.Author.Tests.{eq-eqb, ne_eqb}
use Rattle.octets.proofs.Logic.{equal_or_not}
use Rattle.eif.specs.declared.Verdict.TheVariants.{Accepted}
use Rattle.assembler_laws.specs.Run.{Memory, answer_to, memory_after, fault_at, run, taken_of, AllAccepted, EachCall, holding}
use Rattle.assembler_laws.specs.Set.{CompleteSet, joined_pieces, SetTransfer}
use Rattle.assembler_laws.proofs.Calls.{refused_keeps}
use Rattle.assembler_laws.proofs.Transfer.{run_append}
use Rattle.assembler_laws.proofs.Content.{image_length, any_order}

-- a run leaves what those of its records leave that are taken
pub run_taken : (rs : List (List ℕ)) (w : Memory) → run w rs ≡ run w (taken_of w rs)
unfolding run taken_of
run_taken [] w = refl
run_taken (r ∷ rs) w =
    ⊎_elim
    (λ (z : fault_at w r ≡ 0). run_taken rs (memory_after w r) ∙ rw (eq-eqb (fault_at w r) 0 z) refl)
    (λ (h : fault_at w r ≡ 0 → ⊥).
    run_taken rs (memory_after w r)
    ∙ ap (λ (v : Memory). run v (taken_of (memory_after w r) rs)) (refused_keeps w r h).1
    ∙ rw (ne_eqb (fault_at w r) 0 h) refl)
    (equal_or_not (fault_at w r) 0)

last_accepted : (rs : List (List ℕ)) (w : Memory) (c : List ℕ) → AllAccepted w (rs ++ (c ∷ [])) → (answer_to (run w rs) c).verdict ≡ Accepted
unfolding EachCall run
last_accepted [] w c a = a.0
last_accepted (r ∷ rs) w c a = last_accepted rs (memory_after w r) c a.1

-- after an open, any records of which those that are taken are one complete set, in any order and with any repeats: the close is taken, reports the
-- image's length, and leaves the pieces joined
module _ (n : ℕ) (ps : List (List ℕ)) (all : CompleteSet n ps) (w : Memory) (o : List ℕ) (rs : List (List ℕ)) (c : List ℕ) where
  module _ (t : SetTransfer n ps w o (taken_of (memory_after w o) rs) c) where
    abbrev full : Memory
    full = run (memory_after w o) rs

    full_is : run w (o ∷ taken_of (memory_after w o) rs) ≡ full
    unfolding run
    full_is = sym (run_taken rs (memory_after w o))

    pub close_taken : (answer_to (run (memory_after w o) rs) c).verdict ≡ Accepted
    close_taken =
        ap (λ (v : Memory). (answer_to v c).verdict) (sym full_is)
        ∙ last_accepted (o ∷ taken_of (memory_after w o) rs) w c (any_order n ps all w o (taken_of (memory_after w o) rs) c t).accepted

    pub close_reports : (answer_to (run (memory_after w o) rs) c).length ≡ n
    close_reports =
        ap (λ (v : Memory). (answer_to v c).length) (sym full_is)
        ∙ (any_order n ps all w o (taken_of (memory_after w o) rs) c t).reported ∙ image_length n ps all

    pub close_leaves_all : memory_after (run (memory_after w o) rs) c ≡ holding (joined_pieces n ps) w.image w.marks
    unfolding run
    close_leaves_all =
        ap (λ (v : Memory). memory_after v c) (sym full_is)
        ∙ sym (run_append w (o ∷ taken_of (memory_after w o) rs) (c ∷ []))
        ∙ (any_order n ps all w o (taken_of (memory_after w o) rs) c t).left
