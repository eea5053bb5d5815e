-- A staged view from a reading of the base that the caller has already: for any reading, also one that is of no image. x is the reading; s, r, k
-- and j are as in Staged.antt. With the base's own reading these are the answers of Staged.antt and View.antt: proofs/Listed.antt.
use Rattle.std.specs.Prelude.{ℕ, ◌-◌, min, List, [], ltb, eqb, length}
use Rattle.octets.specs.Logic.{choose}
use Rattle.eif.specs.Numbers.{place_count, wrong_count}
use Rattle.eif.specs.Answers.{refuse, and_then, beside}
use Rattle.eif.specs.Reading.{data_of, section_in}
use Rattle.eif.specs.Plan.{plan_of}
use Rattle.eif.specs.declared.Reading.{Reading}
use Rattle.eif.specs.declared.Verdict.{Verdict}
use Rattle.staged.specs.Staged.{with_place, view_verdict}
use Rattle.staged.specs.View.{staged_sections, staged_for, shown_at, place_for}
use Rattle.staged.specs.declared.Staged.{Staged}
use Rattle.staged.specs.declared.StagedPart.{StagedPart}

-- the reading's refusal; 5 where it counts more sections than there are places, which the reading of an image never does; then 27 and 1
unfoldable pub listed_verdict : Reading → ℕ → ℕ → ℕ → Verdict
listed_verdict x size k j =
    and_then x.verdict
    (choose (ltb place_count x.count) (refuse wrong_count 0)
    (view_verdict x.count (with_place (plan_of x) k size) k j))

-- the view, for a base of `end` bytes
unfoldable pub listed_view : Reading → ℕ → ℕ → ℕ → ℕ → Staged
listed_view x end size k j = staged_for (listed_verdict x size k j) x.flags (staged_sections x.sections k end size)

-- what is shown of section j
unfoldable pub listed_shown : List ℕ → List ℕ → Reading → ℕ → ℕ → List ℕ
listed_shown s r x k j = beside (listed_verdict x (length r) k j) (choose (eqb j k) r (data_of s (section_in x.sections j))) []

-- where that stands in memory
unfoldable pub listed_start : List ℕ → ℕ → Reading → ℕ → ℕ → ℕ × ℕ → ℕ × ℕ → ℕ × ℕ
listed_start s size x k j base replacement =
    shown_at (listed_verdict x size k j) (eqb j k) base replacement (min (section_in x.sections j).position.0 (length s))

-- where it lies, by its place, for a base of `end` bytes: no place is past the base
unfoldable pub listed_place : Reading → ℕ → ℕ → ℕ → ℕ → StagedPart
listed_place x end size k j =
    let y = section_in x.sections j in
    place_for (listed_verdict x size k j) (choose (eqb j k) 1 0) (choose (eqb j k) 0 (min y.position.0 end))
    (choose (eqb j k) size (min y.length.0 (end - y.position.0)))
