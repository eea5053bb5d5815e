-- The machine in numbers: what the code of json_check computes. Nothing is assumed of it; what its verdicts mean is a law against the
-- grammar alone, in json_laws.
-- A stack is 1, and then a bit for each open array (0) or object (1), the innermost last. Assumes nothing.
use Rattle.std.specs.Prelude.{ℕ, suc, ◌+◌, ◌*◌, ◌/◌, ◌%◌, ◌^◌, Bool, true, false, List, [], ◌∷◌, eqb, ltb, get_or}
use Rattle.octets.specs.Logic.{both, either, choose}
use Rattle.json_grammar.specs.Verdict.{depth_limit, JsonVerdict, Text, Fault}
use Rattle.octets.specs.Lists.{joined}
use Rattle.json_machine.specs.Table.{classes, rows}

-- the modes of the tables that are named here: before a value, where an array and where an object begins, before a member's name and after it,
-- after a value with nothing open, in an array and in an object, and in a number that may end
abbrev pub value_mode : ℕ
value_mode = 0

abbrev pub first_item_mode : ℕ
first_item_mode = 1

abbrev pub first_member_mode : ℕ
first_member_mode = 2

abbrev pub key_mode : ℕ
key_mode = 3

abbrev pub colon_mode : ℕ
colon_mode = 4

abbrev pub after_text_mode : ℕ
after_text_mode = 5

abbrev pub after_item_mode : ℕ
after_item_mode = 6

abbrev pub after_member_mode : ℕ
after_member_mode = 7

abbrev pub zero_mode : ℕ
zero_mode = 9

abbrev pub whole_mode : ℕ
whole_mode = 10

abbrev pub fraction_mode : ℕ
fraction_mode = 12

abbrev pub power_mode : ℕ
power_mode = 15

-- the entries of the tables that are no modes; the first is above all modes
abbrev pub fault_entry : ℕ
fault_entry = 51

abbrev pub stop_entry : ℕ
stop_entry = 52

abbrev pub again_entry : ℕ
again_entry = 53

abbrev pub open_array_entry : ℕ
open_array_entry = 54

abbrev pub open_object_entry : ℕ
open_object_entry = 55

abbrev pub close_entry : ℕ
close_entry = 56

-- how many classes of bytes there are
abbrev pub class_count : ℕ
class_count = 40

-- the stack with nothing open
abbrev pub nothing_open : ℕ
nothing_open = 1

-- with a stack below this, one more may be opened
abbrev pub stack_limit : ℕ
stack_limit = 2 ^ depth_limit

-- the mode after a value: nothing is open, an array, an object
unfoldable pub after_of : ℕ → ℕ
after_of stack = choose (eqb stack nothing_open) after_text_mode (choose (eqb (stack % 2) 0) after_item_mode after_member_mode)

-- the tables' entry for a mode and a byte
unfoldable pub entry_of : ℕ → ℕ → ℕ
entry_of mode b = get_or (joined rows) (mode * class_count + get_or classes b 0) 0

-- what to do at a byte; where a number ended before it, what to do after a value
unfoldable pub act_of : ℕ → ℕ → ℕ → ℕ
act_of mode stack b = choose (eqb (entry_of mode b) again_entry) (entry_of (after_of stack) b) (entry_of mode b)

pub data Kind : Type 0 where
  goes stops closes faults : Kind
  opens : Bool → Kind

unfoldable pub kind_of : ℕ → Kind
kind_of act =
    choose (ltb act fault_entry) goes
    (choose (eqb act stop_entry) stops
    (choose (eqb act open_array_entry) (opens false)
    (choose (eqb act open_object_entry) (opens true)
    (choose (eqb act close_entry) closes faults))))

-- which of the two is opened: an object where true
abbrev pub bit : Bool → ℕ
bit false = 0
bit true = 1

-- the next mode, which is none at a fault
abbrev pub turn_mode : Kind → ℕ → ℕ → ℕ
turn_mode goes act stack = act
turn_mode stops act stack = after_of stack
turn_mode closes act stack = after_of (stack / 2)
turn_mode faults act stack = fault_entry
turn_mode (opens object) act stack = choose (ltb stack stack_limit) (first_item_mode + bit object) fault_entry

abbrev pub turn_stack : Kind → ℕ → ℕ
turn_stack goes stack = stack
turn_stack stops stack = stack
turn_stack closes stack = stack / 2
turn_stack faults stack = stack
turn_stack (opens object) stack = choose (ltb stack stack_limit) (stack * 2 + bit object) stack

-- whether a text may end here
unfoldable pub ends_of : ℕ → ℕ → Bool
ends_of mode stack =
    both (eqb stack nothing_open)
    (either (eqb mode after_text_mode)
    (either (eqb mode zero_mode)
    (either (eqb mode whole_mode)
    (either (eqb mode fraction_mode)
    (eqb mode power_mode)))))

-- the verdict from byte i on, over the bytes from there
unfoldable pub walk_from : ℕ → ℕ → ℕ → List ℕ → JsonVerdict
walk_from mode stack i [] = choose (ends_of mode stack) Text (Fault i)
walk_from mode stack i (b ∷ bs) =
    choose (eqb (turn_mode (kind_of (act_of mode stack b)) (act_of mode stack b) stack) fault_entry)
    (Fault i)
    (walk_from (turn_mode (kind_of (act_of mode stack b)) (act_of mode stack b) stack) (turn_stack (kind_of (act_of mode stack b)) stack) (suc i) bs)

unfoldable pub json_verdict : List ℕ → JsonVerdict
json_verdict s = walk_from value_mode nothing_open 0 s
