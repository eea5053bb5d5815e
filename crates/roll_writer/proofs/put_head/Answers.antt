use Prim.Native.Nat.{ℕ, ◌+◌}
use mathlib.Core.Path.{refl, ap, ◌∙◌}
use native.Mathlib.Nat.{add-zero}
use Rattle.octets.specs.Bytes.{le_bytes}
use Rattle.octets.specs.Over.{over}
use Rattle.octets.proofs.Over.{over_joined}
use Rattle.eif.specs.Roll.{record_type_at, head_of}
use Rattle.roll_writer.proofs.put_head.Goals as goal

-- `roll_writer::put_head` meets its contract: the length and then the type are the head.
-- Assumes nothing.
pub returns : goal.returns
unfolding head_of
returns c = let a = c.args in
    let size = le_bytes 8 a.size in
    over_joined a.out.now a.at size (le_bytes 2 a.kind) {m = a.at + record_type_at}
    (c.put_le64.ensures ∙ ap (λ (n : ℕ). over a.out.now n size) (add-zero a.at))
    c.put_le16.ensures refl
