-- A refusal carries the first number that applies, in the order of the list. Assumes nothing.
use Prim.Native.Nat.{ℕ}
use mathlib.Core.Path.{◌≡◌, refl, ◌∙◌}
use mathlib.Core.Bool.{Bool, true, false, not}
use mathlib.Core.List.{List}
use lib.Dec.{eqb}
use lib.ListN.{length}
use Rattle.octets.specs.Logic.{choose}
use Rattle.eif.specs.Answers.{refuse, whole_verdict}
use Rattle.eif.specs.Order.{first_that_applies}
use Rattle.eif.specs.declared.Verdict.{Verdict}
use Rattle.eif.specs.declared.Verdict.TheVariants.{Accepted}
use Rattle.eif.specs.Numbers.{image_too_long, piece_record_wrong, piece_out_of_turn, buffer_too_short, piece_differs, piece_missing}
use Rattle.assembler.specs.Records.{number_in, is_open, is_piece, formed}
use Rattle.assembler.specs.Rules.{out_of_turn, misplaced, too_long, too_short, differs, lacks_piece, fault_of}
use Rattle.assembler.specs.Order.{step_rules}
use Rattle.assembler.specs.Step.{fresh_state, open_state, stepped, accepted_step, step_answer}
use Rattle.assembler.specs.declared.State.{State}
use Rattle.assembler.specs.declared.Stepped.{Stepped}

seven : (a b c d e f g : Bool)
    → whole_verdict (choose a piece_record_wrong (choose b piece_out_of_turn (choose c piece_record_wrong (choose d image_too_long (choose e buffer_too_short (choose f piece_differs (choose g piece_missing 0)))))))
    ≡ choose a (refuse piece_record_wrong 0) (choose b (refuse piece_out_of_turn 0) (choose c (refuse piece_record_wrong 0) (choose d (refuse image_too_long 0) (choose e (refuse buffer_too_short 0) (choose f (refuse piece_differs 0) (choose g (refuse piece_missing 0) Accepted))))))
seven true b c d e f g = refl
seven false true c d e f g = refl
seven false false true d e f g = refl
seven false false false true e f g = refl
seven false false false false true f g = refl
seven false false false false false true g = refl
seven false false false false false false true = refl
seven false false false false false false false = refl

-- beside an answer that accepts, a refusal
verdict_of_holds : (t : Bool) (a : Stepped) (v : Verdict) (st : State) → a.verdict ≡ Accepted → (choose t a (stepped v st 0)).verdict ≡ choose t Accepted v
verdict_of_holds true a v st e = e
verdict_of_holds false a v st e = refl

accepts : (t u : Bool) (st : State) (n image marks : ℕ)
    → (choose t (stepped Accepted (open_state n image marks) 0) (choose u (stepped Accepted st 0) (stepped Accepted fresh_state st.length))).verdict ≡ Accepted
accepts true u st n image marks = refl
accepts false true st n image marks = refl
accepts false false st n image marks = refl

pub step_first : (st : State) (r x y : List ℕ) → (step_answer st r x y).verdict ≡ first_that_applies (step_rules st r x y)
unfolding step_answer fault_of first_that_applies step_rules
step_first st r x y =
    verdict_of_holds (eqb (fault_of st r x y) 0) (accepted_step st r (length x) (length y)) (refuse (fault_of st r x y) 0) st
    (accepts (is_open r) (is_piece r) st (number_in r) (length x) (length y))
    ∙ seven (not (formed r)) (out_of_turn st r) (misplaced st r) (too_long r) (too_short st r x y) (differs r x y) (lacks_piece st r y)
