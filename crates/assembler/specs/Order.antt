-- The order of the refusals of a record, as a list like those of eif's Order. That a step's verdict is that of the first rule of the list
-- that applies is `step_first` of proofs/Order.antt. Assumes nothing.
use Rattle.std.specs.Prelude.{ℕ, Bool, not, List, [], ◌∷◌}
use Rattle.eif.specs.Numbers.{image_too_long, piece_record_wrong, piece_out_of_turn, buffer_too_short, piece_differs, piece_missing}
use Rattle.eif.specs.Order.{Rule, rule}
use Rattle.assembler.specs.Records.{formed}
use Rattle.assembler.specs.Rules.{out_of_turn, misplaced, too_long, too_short, differs, lacks_piece}
use Rattle.assembler.specs.declared.State.{State}

-- a rule on a record: its index and its position are 0
abbrev record_rule : Bool → ℕ → Rule
record_rule applies number = rule applies number 0 0

unfoldable pub step_rules : State → List ℕ → List ℕ → List ℕ → List Rule
step_rules st r x y =
    record_rule (not (formed r)) piece_record_wrong
    ∷ record_rule (out_of_turn st r) piece_out_of_turn
    ∷ record_rule (misplaced st r) piece_record_wrong
    ∷ record_rule (too_long r) image_too_long
    ∷ record_rule (too_short st r x y) buffer_too_short
    ∷ record_rule (differs r x y) piece_differs
    ∷ record_rule (lacks_piece st r y) piece_missing
    ∷ []
