use mathlib.Core.Path.{ap, ◌∙◌}
use Rattle.sha384.specs.State.{more_hashed}
use Rattle.eif_fingerprint.proofs.Records.{whole_flags}
use Rattle.eif_fingerprint.proofs.hash_flags.Goals as goal
use Rattle.eif_fingerprint.proofs.hash_flags.Goals.{After-put_le16, After-put_le16-2, After-put_le64}

-- `eif_fingerprint::hash_flags` meets its contract: the record fills its buffer.
pub returns : goal.returns
returns c = let o = (goal.at.returns c).After-put_le16-2 in
    let p = (goal.at.After-put_le16-2 o).After-put_le16 in
    let q = (goal.at.After-put_le16 p).After-put_le64 in
    let a = q.args in
    c.after.ensures ∙ ap (more_hashed a.roll) (whole_flags a.flags q.put_le64.ensures p.put_le16.ensures o.put_le16-2.ensures)
