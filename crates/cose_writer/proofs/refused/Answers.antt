use mathlib.Core.Path.{ap}
use Rattle.eif.specs.declared.Written.{Written}
use Rattle.eif.specs.declared.Verdict.{Verdict}
use Rattle.cose_writer.proofs.refused.Goals as goal

-- `cose_writer::refused` meets its contract: it is the definition. Assumes nothing.
written : Verdict → Written
written v = record { verdict = v; length = 0 }

pub returns : goal.returns
unfolding written
returns c = ap written c.refuse.ensures
