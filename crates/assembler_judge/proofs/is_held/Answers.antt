use Prim.Native.Nat.{ℕ, ◌/◌}
use mathlib.Core.Path.{ap}
use mathlib.Core.Bool.{not}
use lib.Dec.{eqb}
use lib.ListN.{get_or}
use Rattle.assembler.specs.Records.{piece_size}
use Rattle.assembler_judge.proofs.is_held.Goals as goal

-- `assembler_judge::is_held` meets its contract: the mark is read where the record's start says. Assumes nothing.
pub returns : goal.returns
returns c = ap (λ (n : ℕ). not (eqb (get_or c.args.marks.now (n / piece_size) 0) 0)) c.le64.ensures
