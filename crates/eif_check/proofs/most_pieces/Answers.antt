use native.Mathlib.Omega.{arith}
use Rattle.eif_check.proofs.most_pieces.Goals as goal

-- `eif_check::most_pieces` meets its contract, by computation.
pub returns : goal.returns
returns c = record { past = omega arith; first = omega arith }
