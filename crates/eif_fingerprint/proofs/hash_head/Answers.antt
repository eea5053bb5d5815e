use mathlib.Core.Path.{ap, ◌∙◌}
use Rattle.sha384.specs.State.{more_hashed}
use Rattle.eif_fingerprint.proofs.Records.{whole_head}
use Rattle.eif_fingerprint.proofs.hash_head.Goals as goal
use Rattle.eif_fingerprint.proofs.hash_head.Goals.{After-put_le16, After-put_le64}

-- `eif_fingerprint::hash_head` meets its contract: the head fills its buffer.
pub returns : goal.returns
returns c = let p = (goal.at.returns c).After-put_le16 in
    let q = (goal.at.After-put_le16 p).After-put_le64 in
    let a = q.args in
    c.after.ensures ∙ ap (more_hashed a.roll) (whole_head a.size a.kind q.put_le64.ensures p.put_le16.ensures)
