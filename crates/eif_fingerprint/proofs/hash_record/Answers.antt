use mathlib.Core.Path.{sym, ap, ◌∙◌}
use mathlib.Core.List.{List}
use Prim.Native.Nat.{ℕ}
use lib.ListN.{length}
use Rattle.eif.specs.Roll.{head_of}
use Rattle.sha384.specs.State.{more_hashed}
use Rattle.sha384.specs.declared.State.{State}
use Rattle.staged.specs.View.{held_by}
use Rattle.eif_fingerprint.proofs.Hashed.{record_boot, record_other}
use Rattle.eif_fingerprint.proofs.hash_record.Goals as goal
use Rattle.eif_fingerprint.proofs.hash_record.Goals.{After-hash_head-head, After-held-own, After-is_boot}

-- `eif_fingerprint::hash_record` meets its contract: head and data, or nothing, by the section's type.
pub returns-then-is_boot : goal.returns-then-is_boot
returns-then-is_boot c = let h = (goal.at.returns-then-is_boot c).After-hash_head-head in
    let d = (goal.at.After-hash_head-head h).After-held-own in
    let b = (goal.at.After-held-own d).After-is_boot in
    let a = b.args in
    c.after.ensures ∙ ap (λ (st : State). more_hashed st d.held-own.result.now) h.hash_head-head.ensures
    ∙ ap (λ (l : List ℕ). more_hashed (more_hashed a.roll (head_of (length l) a.x.kind)) l) d.held-own.ensures.result_value
    ∙ sym (record_boot (held_by a.base.now a.replacement.now) a.roll a.x (sym b.is_boot.ensures ∙ d.if-is_boot.true))

pub returns : goal.returns
returns c = let b = (goal.at.returns c).After-is_boot in
    let a = b.args in
    sym (record_other (held_by a.base.now a.replacement.now) a.roll a.x (sym b.is_boot.ensures ∙ c.if-is_boot.false))
