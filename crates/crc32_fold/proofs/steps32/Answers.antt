use Prim.Native.Nat.{ℕ, ◌*◌, ◌^◌}
use mathlib.Core.Path.{ap, ◌∙◌}
use Rattle.crc32.specs.Crc.{shift_bits}
use Rattle.crc32_lemmas.proofs.Steps.{steps_32}
use Rattle.crc32_fold.proofs.steps32.Goals as goal
use Rattle.crc32_fold.proofs.steps32.Goals.{After-wide32}

-- `crc32_fold::steps32` meets its contract: 32 of the 64 steps move the number down.
-- Assumes nothing.
pub returns : goal.returns
returns c = let w = (goal.at.returns c).After-wide32 in
    c.steps64.ensures ∙ ap (λ (x : ℕ). shift_bits 64 (x * 2 ^ 32)) w.wide32.ensures.0 ∙ steps_32 w.args.x
