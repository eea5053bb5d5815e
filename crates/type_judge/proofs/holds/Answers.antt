use Prim.Native.Nat.{suc, ◌-◌}
use mathlib.Core.Path.{◌≡◌, refl, sym, ap, ◌∙◌}
use native.Mathlib.Omega.{arith}
use Rattle.eif.specs.Rules.{seen}
use Rattle.eif_lemmas.proofs.Types.{seen_here, seen_on}
use Rattle.type_judge.specs.Kinds.{listed_kind}
use Rattle.type_judge.proofs.holds.Goals as goal

-- `type_judge::holds` meets its contract: the types are looked at from the last to the first, and whether the type is among
-- those that are left stays the answer for all. The measure is how many are left. Assumes nothing.
pub returns-then-kinds-j : goal.returns-then-kinds-j
returns-then-kinds-j c = let l = c.loop-j in
    let a = c.args in
    let e : suc (l.j - 1) ≡ l.j = omega arith in
    sym (seen_here (listed_kind a.kinds.now) a.kind (l.j - 1) c.if-kinds-j.true) ∙ ap (seen (listed_kind a.kinds.now) a.kind) e ∙ l.invariant.1

pub loop-j-preserved : goal.loop-j-preserved
loop-j-preserved c = let l = c.loop-j in
    let a = c.args in
    let e : suc (l.j - 1) ≡ l.j = omega arith in
    (omega arith, sym (seen_on (listed_kind a.kinds.now) a.kind (l.j - 1) c.if-kinds-j.false) ∙ ap (seen (listed_kind a.kinds.now) a.kind) e ∙ l.invariant.1)

pub returns : goal.returns
unfolding seen
returns c = let l = c.loop-j in
    let e : l.j ≡ 0 = omega arith in
    rw e at l.invariant.1

pub loop-j-init : goal.loop-j-init
loop-j-init c = (omega arith, refl)
