use Prim.Native.Nat.{ℕ}
use mathlib.Core.Path.{ap, ◌∙◌}
use native.Mathlib.Omega.{arith}
use lib.ListN.{take, length-take}
use Rattle.octets.proofs.Lists.{take_min}
use Rattle.staged_writing.proofs.first.Goals as goal

-- `staged_writing::first` meets its contract: the part up to there.
pub slice_bounds-result-end : goal.slice_bounds-result-end
slice_bounds-result-end c = simp length-take (omega arith)

pub returns : goal.returns
returns c = let a = c.args in
    ap (λ (n : ℕ). take n a.bytes.now) c.lesser.ensures ∙ take_min a.count a.bytes.now
