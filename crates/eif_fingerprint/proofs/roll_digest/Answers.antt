use mathlib.Core.Path.{ap, ◌∙◌}
use Rattle.eif.specs.Roll.{head_of, flags_record, end_type}
use Rattle.sha384.specs.State.{more_hashed, digest_from}
use Rattle.sha384.specs.declared.State.{State}
use Rattle.staged.specs.View.{held_by}
use Rattle.eif_fingerprint.specs.Fingerprint.{records_hashed, roll_digest}
use Rattle.eif_fingerprint.proofs.roll_digest.Goals as goal
use Rattle.eif_fingerprint.proofs.roll_digest.Goals.{After-hash_flags-first, After-hash_head-whole, After-hash_records-all, After-new}

-- `eif_fingerprint::roll_digest` meets its contract: flags record, records and end record are hashed one after the other.
pub returns : goal.returns
unfolding roll_digest
returns c = let h = (goal.at.returns c).After-hash_head-whole in
    let r = (goal.at.After-hash_head-whole h).After-hash_records-all in
    let f = (goal.at.After-hash_records-all r).After-hash_flags-first in
    let n = (goal.at.After-hash_flags-first f).After-new in
    let a = n.args in
    let held = held_by a.base.now a.replacement.now in
    c.finish.ensures ∙ ap digest_from h.hash_head-whole.ensures
    ∙ ap (λ (x : State). digest_from (more_hashed x (head_of 0 end_type))) r.hash_records-all.ensures
    ∙ ap (λ (x : State). digest_from (more_hashed (records_hashed held x a.sections) (head_of 0 end_type))) f.hash_flags-first.ensures
    ∙ ap (λ (x : State). digest_from (more_hashed (records_hashed held (more_hashed x (flags_record a.flags)) a.sections) (head_of 0 end_type))) n.new.ensures
