use Prim.Native.Nat.{ℕ, suc, ◌+◌}
use mathlib.Core.Path.{◌≡◌, ap, ◌∙◌}
use native.Mathlib.Numerals.{add-one}
use borrow.Author.Tests.{eq-eqb, ne_eqb}
use lib.Dec.{eqb}
use lib.ListN.{replicate}
use Rattle.eif.specs.Numbers.{place_count, wrong_count}
use Rattle.octets.specs.Logic.{choose}
use Rattle.eif.specs.Answers.{refuse_at}
use Rattle.eif.specs.Roll.{flags_record_size, blank_record}
use Rattle.eif.specs.declared.Verdict.{Verdict}
use Rattle.roll_reader.specs.Walk.{stopped_with}
use Rattle.roll_reader.proofs.stopped.Goals as goal
use Rattle.roll_reader.proofs.stopped.Goals.{Joined-number-eq-WRONG_COUNT, then-number-eq-WRONG_COUNT, else-number-eq-WRONG_COUNT}

-- `roll_reader::stopped` meets its contract: the index is chosen by the number. Assumes nothing.
index_is : (c : Joined-number-eq-WRONG_COUNT) → c.if-number-eq-WRONG_COUNT.index ≡ choose (eqb c.args.number wrong_count) 0 (suc c.args.i)
index_is c = elim c.if-number-eq-WRONG_COUNT.branch [
  | then-number-eq-WRONG_COUNT w ↦ w.index-is ∙ simp (eq-eqb _ _ w.if-number-eq-WRONG_COUNT.true)
  | else-number-eq-WRONG_COUNT w ↦ w.index-is ∙ simp (ne_eqb _ _ w.if-number-eq-WRONG_COUNT.false, add-one)
]

pub returns : goal.returns
unfolding stopped_with
returns c = let a = c.args in
    ap (λ (v : Verdict). record { verdict = v; count = 0; end = 0; kinds = replicate place_count 0; records = replicate place_count blank_record })
    (c.refuse_at.ensures ∙ ap (λ (k : ℕ). refuse_at a.number k (flags_record_size + a.at)) (index_is (goal.at.returns c).Joined-number-eq-WRONG_COUNT))
