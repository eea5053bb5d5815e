-- The staged view as the code has it: a section list in which the replaced section stands as if the replacement followed the base, and
-- the data of a section of such a list. Its records and streams are those of the image written afresh: `records_are` and `stream_is` of
-- proofs/Held.antt.
-- Assumes nothing.
use Rattle.std.specs.Prelude.{ℕ, ◌+◌, ◌-◌, min, Bool, true, false, List, ltb, eqb, length, set, replicate}
use Rattle.eif.specs.Numbers.{place_count}
use Rattle.octets.specs.Logic.{choose}
use Rattle.eif.specs.Answers.{beside}
use Rattle.eif.specs.Reading.{blank_section, data_of, read_image, section_in}
use Rattle.eif.specs.declared.Section.{Section}
use Rattle.eif.specs.declared.Verdict.{Verdict}
use Rattle.eif.specs.declared.Verdict.TheVariants.{Accepted, Refused}
use Rattle.staged.specs.Staged.{staged_verdict}
use Rattle.staged.specs.declared.Staged.{Staged}
use Rattle.staged.specs.declared.StagedPart.{StagedPart}

-- a section with its data at another position, and of another length
abbrev pub moved : Section → ℕ → ℕ → Section
moved x at size = record { kind = x.kind; flags = x.flags; position = record { 0 = at }; length = record { 0 = size } }

-- the base has so many bytes, the replacement so many
unfoldable pub staged_sections : List Section → ℕ → ℕ → ℕ → List Section
staged_sections l k at size = set l k (moved (section_in l k) at size)

-- beside a refusal everything is zero
abbrev pub blank_staged : Verdict → Staged
blank_staged verdict = record { verdict = verdict; flags = 0; sections = replicate place_count blank_section }

abbrev pub staged_for : Verdict → ℕ → List Section → Staged
staged_for verdict flags l =
    let blank = blank_staged verdict in
    record { verdict = verdict; flags = beside verdict flags blank.flags; sections = beside verdict l blank.sections }

unfoldable pub staged_view : List ℕ → ℕ → ℕ → ℕ → Staged
staged_view s size k j =
    staged_for (staged_verdict s size k j) (read_image s).flags (staged_sections (read_image s).sections k (length s) size)

-- the data of any section, of the base s where it starts in it, and else of the replacement r
unfoldable pub held_by : List ℕ → List ℕ → Section → List ℕ
held_by s r x =
    choose (ltb x.position.0 (length s)) (data_of s x) (data_of r (moved x (x.position.0 - length s) x.length.0))

-- where that data stands in memory, by where base and replacement start there, a block and a place in it
unfoldable pub held_start : List ℕ → List ℕ → Section → ℕ × ℕ → ℕ × ℕ → ℕ × ℕ
held_start s r x base replacement =
    choose (ltb x.position.0 (length s))
    (base.0, base.1 + min x.position.0 (length s))
    (replacement.0, replacement.1 + min (x.position.0 - length s) (length r))

-- ---- where what is shown stands in memory, by where the base and the replacement start there, a block and a place in it: at the replacement's
-- start, in the base, or where it is refused at the base's start

abbrev pub shown_at : Verdict → Bool → ℕ × ℕ → ℕ × ℕ → ℕ → ℕ × ℕ
shown_at (Refused x) replaced base replacement at = base
shown_at Accepted true base replacement at = replacement
shown_at Accepted false base replacement at = (base.0, base.1 + at)

unfoldable pub shown_start : List ℕ → ℕ → ℕ → ℕ → ℕ × ℕ → ℕ × ℕ → ℕ × ℕ
shown_start s size k j base replacement =
    shown_at (staged_verdict s size k j) (eqb j k) base replacement (min (section_in (read_image s).sections j).position.0 (length s))

-- ---- where the data of section j lies, of a view with section k replaced by so many bytes

abbrev pub place_for : Verdict → ℕ → ℕ → ℕ → StagedPart
place_for verdict inReplacement start size =
    record { verdict = verdict; in_replacement = beside verdict inReplacement 0; start = beside verdict start 0; length = record { 0 = beside verdict size 0 } }

unfoldable pub staged_place : List ℕ → ℕ → ℕ → ℕ → StagedPart
staged_place s size k j =
    let x = section_in (read_image s).sections j in
    place_for (staged_verdict s size k j) (choose (eqb j k) 1 0) (choose (eqb j k) 0 x.position.0) (choose (eqb j k) size x.length.0)
