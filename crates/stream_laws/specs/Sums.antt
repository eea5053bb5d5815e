-- The numbers of sections that laws add up.
-- Assumes nothing.
use Rattle.std.specs.Prelude.{ℕ, List, take}
use Rattle.eif.specs.Reading.{sections_of, ramdisks_in, section_kind}
use Rattle.eif.specs.declared.Section.{Section}

-- how many stand before section i of an image
abbrev pub ramdisks_before : List ℕ → ℕ → ℕ
ramdisks_before s i = ramdisks_in section_kind (take i (sections_of s))

abbrev pub length_of : Section → ℕ
length_of x = x.length.0
