-- The flat answers of the calls that write an image in pieces.
use Rattle.eif_flat.specs.Flat.{flat, flat_written}
use Rattle.eif_flat.specs.declared.EifAnswer.{EifAnswer}
use Rattle.writing.specs.declared.Begun.{Begun}
use Rattle.writing.specs.declared.Summed.{Summed}
use Rattle.staged_writing.specs.declared.StagedBegun.{StagedBegun}
use Rattle.eif_c.specs.declared.write_pieces.EifWritingBegun.{EifWritingBegun}
use Rattle.eif_c.specs.declared.write_pieces.EifStagedWritingBegun.{EifStagedWritingBegun}

abbrev pub flat_begun : Begun → EifWritingBegun
flat_begun b = record { state = b.state; answer = flat_written b.written }

abbrev pub flat_staged_begun : StagedBegun → EifStagedWritingBegun
flat_staged_begun b = record { state = b.state; answer = flat_written b.written }

-- the checksum as a length
abbrev pub flat_summed : Summed → EifAnswer
flat_summed x = flat x.verdict x.checksum
