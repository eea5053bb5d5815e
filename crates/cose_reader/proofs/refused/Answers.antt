use mathlib.Core.Path.{ap}
use Rattle.eif.specs.declared.Verdict.{Verdict}
use Rattle.cose.specs.Read.{blank_claim, refused_sign1}
use Rattle.cose.specs.declared.Sign1Reading.{Sign1Reading}
use Rattle.cose_reader.proofs.refused.Goals as goal

-- `cose_reader::refused` meets its contract: it is the definition. Assumes nothing.
reading : Verdict → Sign1Reading
reading v = record { verdict = v; claim = blank_claim; position = record { 0 = 0 }; length = record { 0 = 0 } }

pub returns : goal.returns
unfolding reading refused_sign1
returns c = ap reading c.refuse.ensures
