use mathlib.Core.Path.{ap, ◌∙◌}
use Rattle.crc32_lemmas.specs.Fold.{taps, down, powers}
use Rattle.crc32_lemmas.proofs.Steps.{steps_64}
use Rattle.crc32_fold.proofs.steps64.Goals as goal
use Rattle.crc32_fold.proofs.steps64.Goals.{Start}

-- `crc32_fold::steps64` meets its contract: a law on the shifts, computed at each power of two.
-- Assumes nothing.
pub returns : goal.returns
unfolding taps down
returns c = let a = (goal.at.returns c).Start in
    ap (taps down powers) (c.high32-q.ensures ∙ ap (down 32) c.quotient.ensures) ∙ steps_64 a.args.x a.ranges.x.fits
