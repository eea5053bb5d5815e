use Prim.Native.Nat.{◌/◌}
use mathlib.Core.Path.{ap, ◌∙◌}
use lib.Bits.{bit_xor}
use Rattle.crc32_lemmas.proofs.Steps.{steps_8}
use Rattle.crc32_fold.proofs.steps8.Goals as goal

-- `crc32_fold::steps8` meets its contract: eight bits at the top of 32 fall out in 32 steps as they do in 8.
-- Assumes nothing.
pub returns : goal.returns
returns c = let x = c.args.x in
    ap (bit_xor (x / 256)) c.steps32.ensures ∙ steps_8 x
