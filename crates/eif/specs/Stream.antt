-- The three measured streams, and copying from one. Whole, Boot and App are terms of FORMAT.md, Measured streams.
-- Assumes nothing.
use Rattle.std.specs.Prelude.{ℕ, ◌+◌, Bool, not, List, [], ◌∷◌, ltb, eqb, length, take, drop}
use Rattle.eif.specs.Table.{in_table}
use Rattle.eif.specs.Numbers.{ramdisk, past_stream_end}
use Rattle.octets.specs.Lists.{joined_by}
use Rattle.octets.specs.Logic.{both, choose}
use Rattle.eif.specs.Answers.{refuse, and_then, beside}
use Rattle.eif.specs.Reading.{ramdisk_in, blank_section, sections_of, data_of, verdict_of, section_kind}
use Rattle.eif.specs.Output.{output_for}
use Rattle.eif.specs.Rules.{boot_type}
use Rattle.eif.specs.declared.Section.{Section}
use Rattle.eif.specs.declared.Stream.{Stream}
use Rattle.eif.specs.declared.Stream.TheVariants.{Whole, Boot, App}
use Rattle.eif.specs.declared.Copied.{Copied}
use Rattle.eif.specs.declared.StreamLength.{StreamLength}
use Rattle.eif.specs.declared.StreamSections.{StreamSections}
use Rattle.eif.specs.declared.Verdict.{Verdict}
use Rattle.eif.specs.declared.Verdict.TheVariants.{Accepted}

-- ---- which sections a stream has: of the kernel, the command line and the ramdisks, those that it keeps, in file order

-- a ramdisk that is not the first, of a type and the number of ramdisks before
abbrev pub later_ramdisk : ℕ → ℕ → Bool
later_ramdisk kind before = both (eqb kind ramdisk) (ltb 0 before)

-- Whole keeps all of them, Boot all but the later ramdisks, App these
unfoldable pub keeps : Stream → ℕ → ℕ → Bool
keeps Whole kind before = boot_type kind
keeps Boot kind before = both (boot_type kind) (not (later_ramdisk kind before))
keeps App kind before = later_ramdisk kind before

-- what a stream keeps of a list whose elements have types, after so many ramdisks
unfoldable pub kept : {A : Type 0} → Stream → (A → ℕ) → ℕ → List A → List A
kept stream kind_of before [] = []
kept stream kind_of before (x ∷ xs) =
    let rest = kept stream kind_of (before + ramdisk_in (kind_of x)) xs in
    choose (keeps stream (kind_of x) before) (x ∷ rest) rest

abbrev pub stream_sections : Stream → List Section → List Section
stream_sections stream l = kept stream section_kind 0 l

-- as an answer: how many there are, and they, unused places blank; for any sections, also where these are of no image
unfoldable pub sections_answer : Stream → List Section → StreamSections
sections_answer stream l = record { count = length (stream_sections stream l); sections = in_table blank_section (stream_sections stream l) }

-- the data of sections, joined
abbrev pub sections_data : List ℕ → List Section → List ℕ
sections_data s l = joined_by (data_of s) l

-- the bytes of a stream of an image
unfoldable pub stream_of : List ℕ → Stream → List ℕ
stream_of s stream = sections_data s (stream_sections stream (sections_of s))

-- ---- copying from a position: as many bytes as both the buffer and the rest of the stream have

abbrev pub part_of : List ℕ → ℕ → ℕ → List ℕ
part_of bytes from room = take room (drop from bytes)

abbrev pub stream_part : List ℕ → Stream → ℕ → ℕ → List ℕ
stream_part s stream from room = part_of (stream_of s stream) from room

-- 19
abbrev pub past_end : List ℕ → ℕ → Verdict
past_end bytes from = choose (ltb (length bytes) from) (refuse past_stream_end 0) Accepted

-- the image's own refusal, then 19
unfoldable pub copy_verdict : List ℕ → Stream → ℕ → Verdict
copy_verdict s stream from = and_then (verdict_of s) (past_end (stream_of s stream) from)

abbrev pub copied_for : Verdict → ℕ → Copied
copied_for verdict count = record { verdict = verdict; count = beside verdict count 0 }

unfoldable pub copy_answer : List ℕ → Stream → ℕ → ℕ → Copied
copy_answer s stream from room = copied_for (copy_verdict s stream from) (length (stream_part s stream from room))

unfoldable pub copy_output : List ℕ → Stream → ℕ → List ℕ → List ℕ
copy_output s stream from d = output_for (copy_verdict s stream from) (stream_part s stream from (length d)) d

-- ---- copying from sections already found, of any bytes: also where these are not of one image

-- the bytes of the first `count` sections of an answer
unfoldable pub listed_bytes : List ℕ → StreamSections → List ℕ
listed_bytes s list = sections_data s (take list.count list.sections)

unfoldable pub copy_listed_answer : List ℕ → StreamSections → ℕ → ℕ → Copied
copy_listed_answer s list from room =
    copied_for (past_end (listed_bytes s list) from) (length (part_of (listed_bytes s list) from room))

unfoldable pub copy_listed_output : List ℕ → StreamSections → ℕ → List ℕ → List ℕ
copy_listed_output s list from d =
    output_for (past_end (listed_bytes s list) from) (part_of (listed_bytes s list) from (length d)) d

-- ---- how long a stream is

abbrev pub length_for : Verdict → ℕ → StreamLength
length_for verdict count = record { verdict = verdict; length = record { 0 = beside verdict count 0 } }

unfoldable pub length_answer : List ℕ → Stream → StreamLength
length_answer s stream = length_for (verdict_of s) (length (stream_of s stream))
