-- The roll of a list of sections, of an image or of none: a record has the data that its section holds, and its head the length of that data. What
-- a section's data is, is given by a function: that of an image, or of a base and a replacement. For an image's own reading and for a staged view it
-- is the roll of `Roll.roll_bytes`: proofs/Reading.antt and proofs/Staging.antt.
use Rattle.std.specs.Prelude.{ℕ, ◌-◌, ◌^◌, min, List, [], ◌++◌, length}
use Rattle.octets.specs.Lists.{joined_by}
use Rattle.octets.specs.Logic.{choose}
use Rattle.eif.specs.Answers.{and_then}
use Rattle.eif.specs.Output.{room_verdict, written_for, output_for}
use Rattle.eif.specs.Reading.{data_of}
use Rattle.eif.specs.Rules.{boot_type}
use Rattle.eif.specs.Roll.{head_of, flags_record, end_type, roll_of, records_by}
use Rattle.eif.specs.declared.Reading.{Reading}
use Rattle.eif.specs.declared.Section.{Section}
use Rattle.eif.specs.declared.Verdict.{Verdict}
use Rattle.eif.specs.declared.Written.{Written}
use Rattle.staged.specs.View.{held_by}
use Rattle.staged.specs.declared.Staged.{Staged}

-- ---- as the writer goes through the list

-- a section's record, or no bytes where a roll leaves its type out
unfoldable pub roll_part : (Section → List ℕ) → Section → List ℕ
roll_part held x = choose (boot_type x.kind) (head_of (length (held x)) x.kind ++ held x) []

-- the records in file order, and the end record; it is `roll_of (records_by held l)`: `roll_records` of proofs/Steps.antt
unfoldable pub roll_for : (Section → List ℕ) → List Section → List ℕ
roll_for held l = joined_by (roll_part held) l ++ head_of 0 end_type

-- ---- the roll of flags and sections

unfoldable pub sections_roll : ℕ → (Section → List ℕ) → List Section → List ℕ
sections_roll flags held l = flags_record flags ++ roll_of (records_by held l)

-- of a reading of s
abbrev pub listed_roll_bytes : List ℕ → Reading → List ℕ
listed_roll_bytes s x = sections_roll x.flags (data_of s) x.sections

-- of a staged view over base s and replacement r
abbrev pub view_roll_bytes : List ℕ → List ℕ → Staged → List ℕ
view_roll_bytes s r x = sections_roll x.flags (held_by s r) x.sections

-- ---- a roll after a verdict: the refusal; or into so much room 14, or its length and bytes

unfoldable pub written_after : Verdict → List ℕ → ℕ → Written
written_after verdict roll room = written_for (and_then verdict (room_verdict room (length roll))) (length roll)

unfoldable pub output_after : Verdict → List ℕ → List ℕ → List ℕ
output_after verdict roll d = output_for (and_then verdict (room_verdict (length d) (length roll))) roll d

-- the largest length that is counted, in 64 bits
abbrev pub count_most : ℕ
count_most = 2 ^ 64 - 1

-- the refusal, or the roll's length; of sections that overlap it may be over the largest that is counted, and is then that
unfoldable pub length_after : Verdict → List ℕ → Written
length_after verdict roll = written_for verdict (min (length roll) count_most)

-- ---- from a reading that the caller has already

unfoldable pub listed_roll_answer : List ℕ → Reading → ℕ → Written
listed_roll_answer s x room = written_after x.verdict (listed_roll_bytes s x) room

unfoldable pub listed_roll_output : List ℕ → Reading → List ℕ → List ℕ
listed_roll_output s x d = output_after x.verdict (listed_roll_bytes s x) d

unfoldable pub listed_roll_length : List ℕ → Reading → Written
listed_roll_length s x = length_after x.verdict (listed_roll_bytes s x)

-- ---- from a staged view that the caller has already

unfoldable pub view_roll_answer : List ℕ → List ℕ → Staged → ℕ → Written
view_roll_answer s r x room = written_after x.verdict (view_roll_bytes s r x) room

unfoldable pub view_roll_output : List ℕ → List ℕ → Staged → List ℕ → List ℕ
view_roll_output s r x d = output_after x.verdict (view_roll_bytes s r x) d

unfoldable pub view_roll_length : List ℕ → List ℕ → Staged → Written
view_roll_length s r x = length_after x.verdict (view_roll_bytes s r x)
