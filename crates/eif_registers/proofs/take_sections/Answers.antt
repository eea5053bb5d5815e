use Prim.Native.Nat.{ℕ, ◌+◌}
use mathlib.Core.Path.{◌≡◌, refl, sym, ap, ◌∙◌}
use mathlib.Core.List.{List}
use native.Mathlib.Omega.{arith}
use borrow.Author.Rules.{rules}
use lib.ListN.{length}
use lib.Seq.{slice}
use Rattle.eif.specs.Numbers.{place_count}
use Rattle.sha384.specs.State.{updated}
use Rattle.sha384.specs.declared.State.{State}
use Rattle.sha384.specs.declared.Updated.{Updated}
use Rattle.staged.specs.View.{held_by}
use Rattle.eif_registers.specs.Registers.{hashed}
use Rattle.eif_registers.proofs.Hashed.{places_next, places_end}
use Rattle.eif_registers.proofs.take_sections.Goals as goal
use Rattle.eif_registers.proofs.take_sections.Goals.{At-loop-i}

-- `eif_registers::take_sections` meets its contract: the sections that are left, from the state so far, give the state after all.
-- Assumes nothing.
pub loop-i-preserved : goal.loop-i-preserved
loop-i-preserved c = let w = (goal.at.loop-i-preserved c).At-loop-i in
    let l = w.loop-i in
    let a = w.args in
    let s = held_by a.base.now a.replacement.now in
    let n : length a.sections ≡ place_count = search rules in
    let d = c.held.ensures.result_value in
    let e = ap (λ (u : Updated). u.state) c.update-updated.ensures ∙ ap (λ (b : List ℕ). (updated l.st b).state) d in
    (omega arith, ap (λ (x : State). hashed s x (slice (l.i + 1) a.to a.sections)) e ∙ sym (places_next s l.st a.sections l.i a.to (omega arith) (omega arith)) ∙ l.invariant.1)

pub returns : goal.returns
returns c = let l = c.loop-i in
    let a = c.args in
    let z : l.i ≡ a.to = omega arith in
    let s = held_by a.base.now a.replacement.now in
    sym (ap (λ (n : ℕ). hashed s l.st (slice n a.to a.sections)) z ∙ places_end s l.st a.sections a.to) ∙ l.invariant.1

pub loop-i-init : goal.loop-i-init
loop-i-init c = (c.requires.0, refl)
