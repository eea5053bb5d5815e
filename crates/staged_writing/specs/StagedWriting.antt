-- Writing the image of a staged view in pieces (FORMAT.md, Writing in pieces). s is the base, r the replacement, k the number of the replaced
-- section. Every definition is for any state and any reading.
use Rattle.std.specs.Prelude.{ℕ, ◌-◌, List, [], eqb, leb, length, take, drop}
use Rattle.octets.specs.Logic.{choose}
use Rattle.eif.specs.Numbers.{place_count}
use Rattle.eif.specs.Answers.{and_then, beside}
use Rattle.eif.specs.Layout.{offset_at, section_header_size}
use Rattle.eif.specs.Plan.{planned_size, plain_size, plan_of}
use Rattle.eif.specs.Output.{written_for}
use Rattle.eif.specs.declared.Place.{Place}
use Rattle.eif.specs.declared.Reading.{Reading}
use Rattle.eif.specs.declared.Verdict.{Verdict}
use Rattle.eif.specs.declared.Written.{Written}
use Rattle.staged.specs.Staged.{with_place, staged_plan, staged_verdict}
use Rattle.staged.specs.Listed.{listed_verdict}
use Rattle.writing.specs.Writing.{start_writing, empty_writing, writing_begun, writing_stepped}
use Rattle.writing.specs.declared.Writing.{Writing}
use Rattle.staged_writing.specs.declared.StagedWriting.{StagedWriting}
use Rattle.staged_writing.specs.declared.StagedBegun.{StagedBegun}
use Rattle.staged_writing.specs.declared.StagedStepped.{StagedStepped}

-- ---- begin

abbrev pub begun_with : Writing → ℕ → Written → StagedBegun
begun_with writing k written = record { state = record { writing = writing; replaced = k }; written = written }

-- a refusal, and the state that writes nothing
abbrev pub refused_begun : Verdict → StagedBegun
refused_begun verdict = begun_with empty_writing 0 (record { verdict = verdict; length = 0 })

-- the view's refusal, or the state and the length of the image written afresh
unfoldable pub staged_begun : List ℕ → List ℕ → ℕ → ℕ → StagedBegun
staged_begun s r k field =
    let verdict = staged_verdict s (length r) k k in
    let plan = staged_plan s k (length r) in
    beside verdict (begun_with (start_writing plan field) k (written_for verdict (plain_size plan))) (refused_begun verdict)

-- the same from a reading x of the base and a replacement of `size` bytes. The plan of a
-- reading that is of no image may be refused too.
unfoldable pub listed_begun : Reading → ℕ → ℕ → ℕ → StagedBegun
listed_begun x size k field =
    let start = writing_begun (with_place (plan_of x) k size) field in
    let verdict = and_then (listed_verdict x size k k) start.written.verdict in
    beside verdict (begun_with start.state k start.written) (refused_begun verdict)

-- ---- a step

-- the data of place i in the base: as long as the place says, from after the own header at the offset of the base's table
unfoldable pub base_data : List ℕ → List Place → ℕ → List ℕ
base_data s l i = choose (leb place_count i) [] (take (planned_size l i) (drop section_header_size (drop (offset_at s i) s)))

-- the data of the section begun last
unfoldable pub whole_data : StagedWriting → List ℕ → List ℕ → List ℕ
whole_data a s r =
    let i = a.writing.sections_begun - 1 in
    choose (eqb i a.replaced) r (base_data s a.writing.places i)

-- the data that it still needs: the last bytes of its data
unfoldable pub due_data : StagedWriting → List ℕ → List ℕ → List ℕ
due_data a s r = drop (length (whole_data a s r) - a.writing.section_left) (whole_data a s r)

-- a step: that of writing, lent this data
unfoldable pub staged_stepped : StagedWriting → List ℕ → List ℕ → ℕ → StagedStepped
staged_stepped a s r room =
    let answer = writing_stepped a.writing (due_data a s r) room in
    record { state = record { writing = answer.state; replaced = a.replaced }; written = answer.written }
