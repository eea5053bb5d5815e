use Prim.Native.Nat.{ℕ}
use mathlib.Core.Path.{ap, ◌∙◌}
use Rattle.octets.specs.Bytes.{field}
use Rattle.eif.specs.Layout.{entry_size}
use Rattle.eif_judge.proofs.offset_at.Goals as goal
use Rattle.eif_judge.proofs.offset_at.Goals.{After-offset_entry}

-- `eif_judge::offset_at` meets its contract: the number that stands at the entry. Assumes nothing.
pub returns : goal.returns
returns c = let e = (goal.at.returns c).After-offset_entry in
    c.be64.ensures ∙ ap (λ (at : ℕ). field entry_size at e.args.header.now) e.offset_entry.ensures
