use Prim.Native.Nat.{◌+◌}
use mathlib.Core.Path.{refl, sym, ◌∙◌}
use native.Mathlib.Omega.{arith}
use native.Mathlib.Nat.{add-zero}
use borrow.Author.Rules.{rules}
use lib.ListN.{drop, get_or, length-drop, length-set}
use Rattle.octets.proofs.Over.{over_step, over_end}
use Rattle.octets.proofs.copy.Goals as goal

-- `octets::copy` meets its contract: after each store, what is left of `s` over the output as it stands gives the whole of `s` over the first
-- output. Assumes nothing.
pub loop-k-init : goal.loop-k-init
loop-k-init c = (search rules, refl, rw add-zero refl)

pub loop-k-preserved : goal.loop-k-preserved
loop-k-preserved c = let l = c.loop-k in
    let a = c.args in
    (omega arith, simp length-set l.invariant.1, over_step l.out a.s.now a.at l.k (get_or a.s.now l.k 0) (omega arith) refl ∙ l.invariant.2)

pub returns : goal.returns
returns c = let l = c.loop-k in
    let a = c.args in
    sym (over_end l.out (a.at + l.k) (drop l.k a.s.now) (simp length-drop (omega arith))) ∙ l.invariant.2

pub shape_of-out : goal.shape_of-out
shape_of-out c = c.loop-k.invariant.1
