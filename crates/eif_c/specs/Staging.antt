-- The flat answer of where a staged section's data lies.
-- Assumes nothing.
use Rattle.std.specs.Prelude.{replicate}
use Rattle.eif.specs.Answers.{number_of, index_of, position_of}
use Rattle.staged.specs.declared.StagedPart.{StagedPart}
use Rattle.eif_c.specs.declared.staging.EifStagedPart.{EifStagedPart}

abbrev pub flat_part : StagedPart → EifStagedPart
flat_part p =
    record {
      number = number_of p.verdict;
      in_replacement = p.in_replacement;
      reserved = replicate 6 0;
      index = index_of p.verdict;
      position = position_of p.verdict;
      start = p.start;
      length = p.length;
    }
