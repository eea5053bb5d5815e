use mathlib.Core.Path.{◌∙◌}
use native.Mathlib.Nat.{zero-add}
use lib.ListN.{length}
use Rattle.octets.specs.Bytes.{le_bytes}
use Rattle.octets.proofs.Over.{over_joined}
use Rattle.eif.specs.Roll.{flags_type, flags_length, head_of, flags_record}
use Rattle.eif_lemmas.proofs.Head.{length_head}
use Rattle.roll_writer.proofs.put_flags.Goals as goal

-- `roll_writer::put_flags` meets its contract: the head and then the flags are the flags record.
-- Assumes nothing.
pub returns : goal.returns
unfolding flags_record
returns c = let a = c.args in
    let h = head_of flags_length flags_type in
    over_joined a.out.now 0 h (le_bytes flags_length a.flags) c.put_head.ensures c.put_le16.ensures
    (zero-add (length h) ∙ length_head flags_length flags_type)
