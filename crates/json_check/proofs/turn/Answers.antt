use mathlib.Core.Path.{refl, sym}
use mathlib.Core.Bool.{true, false}
use native.Mathlib.Nat.{add-zero}
use Rattle.json_check.proofs.Laws.{turn_goes, turn_stops, opens_array, opens_object, turn_opens, turn_deep, turn_closes, turn_faults}
use Rattle.json_check.proofs.turn.Goals as goal

-- `json_check::turn` meets its contract: a law for each kind of entry. Assumes nothing.
pub returns-then-act-lt-FAULT : goal.returns-then-act-lt-FAULT
returns-then-act-lt-FAULT c = turn_goes _ _ c.if-act-lt-FAULT.true

pub returns-then-act-eq-STOP : goal.returns-then-act-eq-STOP
returns-then-act-eq-STOP c = turn_stops _ _ c.if-act-eq-STOP.true _ c.after.ensures.0 c.after.ensures.1

pub returns-then-stack-lt-STACK_LIMIT : goal.returns-then-stack-lt-STACK_LIMIT
returns-then-stack-lt-STACK_LIMIT c = turn_opens _ _ false (opens_array _ c.if-act-eq-OPEN_ARRAY.true) c.if-stack-lt-STACK_LIMIT.true _ (sym (add-zero _))

pub returns-then-act-eq-OPEN_ARRAY : goal.returns-then-act-eq-OPEN_ARRAY
returns-then-act-eq-OPEN_ARRAY c = turn_deep _ _ false (opens_array _ c.if-act-eq-OPEN_ARRAY.true) c.if-stack-lt-STACK_LIMIT.false

pub returns-then-stack-lt-STACK_LIMIT-2 : goal.returns-then-stack-lt-STACK_LIMIT-2
returns-then-stack-lt-STACK_LIMIT-2 c = turn_opens _ _ true (opens_object _ c.if-act-eq-OPEN_OBJECT.true) c.if-stack-lt-STACK_LIMIT-2.true _ refl

pub returns-then-act-eq-OPEN_OBJECT : goal.returns-then-act-eq-OPEN_OBJECT
returns-then-act-eq-OPEN_OBJECT c = turn_deep _ _ true (opens_object _ c.if-act-eq-OPEN_OBJECT.true) c.if-stack-lt-STACK_LIMIT-2.false

pub returns-then-act-eq-CLOSE : goal.returns-then-act-eq-CLOSE
returns-then-act-eq-CLOSE c = turn_closes _ _ c.if-act-eq-CLOSE.true _ c.after-then-act-eq-CLOSE.ensures.0 c.after-then-act-eq-CLOSE.ensures.1

pub returns : goal.returns
returns c = turn_faults _ _ c.if-act-lt-FAULT.false c.if-act-eq-STOP.false c.if-act-eq-OPEN_ARRAY.false c.if-act-eq-OPEN_OBJECT.false c.if-act-eq-CLOSE.false
