use Prim.Native.Nat.{ℕ, ◌+◌}
use mathlib.Core.Path.{ap, ◌∙◌}
use native.Mathlib.Omega.{arith}
use Rattle.cose.specs.Read.{number_width, number_end}
use Rattle.cose_reader.proofs.number_end.Goals as goal

-- `cose_reader::number_end` meets its contract: it is the definition. Assumes nothing.
pub returns : goal.returns
unfolding number_end
returns c = let w = c.number_width.ensures in
    record { value = ap (λ (k : ℕ). c.args.at + 1 + k) (w.value ∙ ap number_width c.byte.ensures); upper_bound = omega arith }
