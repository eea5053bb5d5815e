use mathlib.Core.Path.{◌≡◌, sym, ◌∙◌}
use Prim.Native.Nat.{ℕ}
use borrow.Author.Tests.{ne_eqb}
use Rattle.eif.specs.Answers.{refuse_at, verdict_at}
use Rattle.eif_lemmas.proofs.Verdicts.{zero_accepted}
use Rattle.eif_c.proofs.readings.given_verdict.Goals as goal

-- `given_verdict` meets its contract: the number is 0, or it is not.
at-refused : (n i p : ℕ) → (n ≡ 0 → ⊥) → refuse_at n i p ≡ verdict_at n i p
at-refused n i p h = simp (ne_eqb n 0 h)

pub returns-then-number-eq0 : goal.returns-then-number-eq0
returns-then-number-eq0 c = let a = c.args in sym (zero_accepted a.number a.index a.position c.if-number-eq0.true)

pub returns : goal.returns
returns c = let a = c.args in
    c.refuse_at.ensures ∙ at-refused a.number a.index a.position c.if-number-eq0.false
