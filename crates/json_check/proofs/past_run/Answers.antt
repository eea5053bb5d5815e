use native.Mathlib.Omega.{arith}
use Rattle.json_check.proofs.Bare.{run_none}
use Rattle.json_check.proofs.past_run.Goals as goal

-- `json_check::past_run` meets its contract: every byte that it passes stands for itself.
pub returns : goal.returns
returns c = (omega arith, omega arith, run_none _ _ _ (omega arith))
