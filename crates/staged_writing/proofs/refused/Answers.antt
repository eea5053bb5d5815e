use mathlib.Core.Path.{ap}
use Rattle.writing.specs.declared.Writing.{Writing}
use Rattle.staged_writing.specs.StagedWriting.{begun_with}
use Rattle.staged_writing.proofs.refused.Goals as goal

-- `staged_writing::refused` meets its contract: the empty state beside the refusal.
pub returns : goal.returns
returns c = ap (λ (w : Writing). begun_with w 0 (record { verdict = c.args.verdict; length = 0 })) c.empty.ensures
