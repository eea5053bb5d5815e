-- The sections of a stream as C has them: reserved fields are not looked at, and are 0 in an answer.
-- Assumes nothing.
use Rattle.std.specs.Prelude.{List, map}
use Rattle.eif.specs.Stream.{sections_answer}
use Rattle.eif.specs.declared.Stream.{Stream}
use Rattle.eif.specs.declared.StreamSections.{StreamSections}
use Rattle.eif_flat.specs.Flat.{flat_section, read_section}
use Rattle.eif_flat.specs.declared.EifSection.{EifSection}
use Rattle.eif_c.specs.declared.sections.EifStreamSections.{EifStreamSections}

abbrev pub flat_listed : StreamSections → EifStreamSections
flat_listed l = record { count = l.count; sections = map flat_section l.sections }

-- the sections of a stream among those of a reading
abbrev pub listed_of : List EifSection → Stream → EifStreamSections
listed_of sections stream = flat_listed (sections_answer stream (map read_section sections))

-- a list that is handed in
abbrev pub list_of : EifStreamSections → StreamSections
list_of l = record { count = l.count; sections = map read_section l.sections }
