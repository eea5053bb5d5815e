-- The flat answer of the assembler.
-- Assumes nothing.
use Rattle.std.specs.Prelude.{replicate}
use Rattle.eif.specs.Answers.{number_of, index_of, position_of}
use Rattle.assembler.specs.declared.Stepped.{Stepped}
use Rattle.eif_c.specs.declared.assembly.EifStepped.{EifStepped}

abbrev pub flat_stepped : Stepped → EifStepped
flat_stepped s =
    record {
      number = number_of s.verdict;
      reserved = replicate 7 0;
      index = index_of s.verdict;
      position = position_of s.verdict;
      state = s.state;
      length = s.length;
    }
