use Prim.Native.Nat.{ℕ}
use mathlib.Core.Path.{ap, ◌∙◌}
use borrow.Author.Rules.{part_to_end}
use lib.ListN.{drop}
use Rattle.octets.proofs.Lists.{drop_min}
use Rattle.staged_writing.proofs.after.Goals as goal
use Rattle.staged_writing.proofs.after.Goals.{After-lesser-skip}

-- `staged_writing::after` meets its contract: the part from there to the end.
pub returns : goal.returns
returns c = let l = (goal.at.returns c).After-lesser-skip in
    let a = l.args in
    part_to_end a.bytes.now l.lesser-skip.result ∙ ap (λ (n : ℕ). drop n a.bytes.now) l.lesser-skip.ensures ∙ drop_min a.count a.bytes.now
