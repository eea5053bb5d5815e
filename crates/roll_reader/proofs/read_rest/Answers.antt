use Prim.Native.Nat.{ℕ}
use mathlib.Core.Path.{◌≡◌, ap, ◌∙◌}
use mathlib.Core.List.{List}
use native.Mathlib.Omega.{arith}
use Rattle.eif.specs.Roll.{refused_roll}
use Rattle.eif.specs.declared.Verdict.{Verdict}
use Rattle.eif.specs.declared.Verdict.TheVariants.{Accepted}
use Rattle.roll_reader.specs.declared.Walked.{Walked}
use Rattle.roll_reader.specs.Walk.{walk_of}
use Rattle.roll_reader.proofs.Ending.{walk_ended, read_stopped, read_more, read_refused, read_accepted}
use Rattle.roll_reader.proofs.read_rest.Goals as goal
use Rattle.roll_reader.proofs.read_rest.Goals.{After-roll_fault-fault}

-- `roll_reader::read_rest` meets its contract: the answer follows from what the walk hands on and from the rules on the whole roll.
-- Assumes nothing.
pub returns-in_default : goal.returns-in_default
returns-in_default c = let w = c.walk-walked in
    let t = c.in_default in
    c.refused.ensures ∙ ap refused_roll t.is
    ∙ read_stopped c.args.rest.now w.result w.ensures c.args.flags t.field-0 t.is

pub roll_fault-fault-requires : goal.roll_fault-fault-requires
roll_fault-fault-requires c = let w = c.walk-walked in
    let x = walk_ended c.args.rest.now w.result w.ensures c.in-Accepted.is in
    record {
      n_le_place_count = x.few;
      end_value = x.end_at;
      record_head_size_in_bounds = x.whole;
      kinds_value = x.kinds_are;
    }

-- ---- after the rules on the whole roll
module _ (c : After-roll_fault-fault) where
  abbrev walked : Walked
  walked = c.walk-walked.result

  abbrev rest : List ℕ
  rest = c.args.rest.now

  abbrev flags : ℕ
  flags = c.args.flags

  walked-is : walked ≡ walk_of rest
  walked-is = c.walk-walked.ensures

  accepted : walked.verdict ≡ Accepted
  accepted = c.in-Accepted.is

pub returns-then-fault-eq-BYTES_AFTER_END : goal.returns-then-fault-eq-BYTES_AFTER_END
returns-then-fault-eq-BYTES_AFTER_END c = let q = (goal.at.returns-then-fault-eq-BYTES_AFTER_END c).After-roll_fault-fault in
    c.refused-then-fault-eq-BYTES_AFTER_END.ensures ∙ ap refused_roll c.refuse_at.ensures
    ∙ read_more (rest q) (walked q) (walked-is q) (flags q) (accepted q) q.roll_fault-fault.result q.roll_fault-fault.ensures c.if-fault-eq-BYTES_AFTER_END.true

pub returns-then-fault-ne0 : goal.returns-then-fault-ne0
returns-then-fault-ne0 c = let q = (goal.at.returns-then-fault-ne0 c).After-roll_fault-fault in
    c.refused-then-fault-ne0.ensures ∙ ap refused_roll c.refuse.ensures
    ∙ read_refused (rest q) (walked q) (walked-is q) (flags q) (accepted q) q.roll_fault-fault.result q.roll_fault-fault.ensures c.if-fault-eq-BYTES_AFTER_END.false c.if-fault-ne0.true

pub returns : goal.returns
returns c = let q = (goal.at.returns c).After-roll_fault-fault in
    ap (λ (v : Verdict). record { verdict = v; flags = flags q; count = (walked q).count; records = (walked q).records }) (accepted q)
    ∙ read_accepted (rest q) (walked q) (walked-is q) (flags q) (accepted q) q.roll_fault-fault.result q.roll_fault-fault.ensures c.if-fault-ne0.false

pub overflow_add-past : goal.overflow_add-past
overflow_add-past c = let q = (goal.at.overflow_add-past c).After-roll_fault-fault in let x = walk_ended (rest q) (walked q) (walked-is q) (accepted q) in omega (arith, x.whole)

pub overflow_add-past-then-fault-eq-BYTES_AFTER_END : goal.overflow_add-past-then-fault-eq-BYTES_AFTER_END
overflow_add-past-then-fault-eq-BYTES_AFTER_END c = let q = (goal.at.overflow_add-past-then-fault-eq-BYTES_AFTER_END c).After-roll_fault-fault in let x = walk_ended (rest q) (walked q) (walked-is q) (accepted q) in omega (arith, x.whole)
