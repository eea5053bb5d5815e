use Prim.Native.Nat.{◌+◌}
use mathlib.Core.Path.{◌≡◌, refl, sym, ap, ◌∙◌}
use native.Mathlib.Omega.{arith}
use borrow.Author.Rules.{rules}
use lib.ListN.{length, drop}
use Rattle.eif.specs.Numbers.{place_count}
use Rattle.sha384.specs.declared.State.{State}
use Rattle.staged.specs.View.{held_by}
use Rattle.eif_fingerprint.specs.Fingerprint.{records_hashed}
use Rattle.eif_fingerprint.proofs.Hashed.{records_next, records_end}
use Rattle.eif_fingerprint.proofs.hash_records.Goals as goal
use Rattle.eif_fingerprint.proofs.hash_records.Goals.{At-loop-i}

-- `eif_fingerprint::hash_records` meets its contract: the sections that are left, from the current state, give the state after all sections. The
-- measure is the number of sections that are left.
pub loop-i-preserved : goal.loop-i-preserved
loop-i-preserved c = let w = (goal.at.loop-i-preserved c).At-loop-i in
    let l = w.loop-i in
    let a = w.args in
    let held = held_by a.base.now a.replacement.now in
    let n : length a.sections ≡ place_count = search rules in
    (omega arith, ap (λ (x : State). records_hashed held x (drop (l.i + 1) a.sections)) c.hash_record-next.ensures ∙ sym (records_next held l.st a.sections l.i (omega arith)) ∙ l.invariant.1)

pub returns : goal.returns
returns c = let l = c.loop-i in
    let a = c.args in
    let n : length a.sections ≡ place_count = search rules in
    sym (records_end (held_by a.base.now a.replacement.now) l.st a.sections l.i (omega arith)) ∙ l.invariant.1

pub loop-i-init : goal.loop-i-init
loop-i-init c = (omega arith, refl)
