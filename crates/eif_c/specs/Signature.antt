-- The flat answer of reading a COSE_Sign1.
-- Assumes nothing.
use Rattle.std.specs.Prelude.{replicate}
use Rattle.eif.specs.Answers.{number_of, index_of, position_of}
use Rattle.cose.specs.declared.Sign1Reading.{Sign1Reading}
use Rattle.eif_c.specs.declared.signature.EifSign1Reading.{EifSign1Reading}

abbrev pub flat_sign1 : Sign1Reading → EifSign1Reading
flat_sign1 r =
    record {
      number = number_of r.verdict;
      reserved = replicate 7 0;
      index = index_of r.verdict;
      position = position_of r.verdict;
      claim = r.claim;
      signature_position = r.position;
      signature_length = r.length;
    }
