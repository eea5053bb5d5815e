-- Copying a stream in pieces: one call after the other, each with a buffer of its own and from where the last one ended.
-- Assumes nothing.
use Rattle.std.specs.Prelude.{ℕ, ◌+◌, List, [], ◌∷◌, ◌++◌, length, take}
use Rattle.eif.specs.Stream.{copy_answer, copy_output}
use Rattle.eif.specs.declared.Copied.{Copied}
use Rattle.eif.specs.declared.Stream.{Stream}
use Rattle.eif.specs.declared.Verdict.{Verdict}
use Rattle.octets.specs.Lists.{sum_by}

-- what a call from a position answers, for a buffer
abbrev copy_of : List ℕ → Stream → ℕ → List ℕ → Copied
copy_of s stream from d = copy_answer s stream from (length d)

-- as many of each buffer's first bytes as the call reported, joined
unfoldable pub copied : List ℕ → Stream → ℕ → List (List ℕ) → List ℕ
copied s stream from [] = []
copied s stream from (d ∷ ds) =
    take (copy_of s stream from d).count (copy_output s stream from d) ++ copied s stream (from + (copy_of s stream from d).count) ds

-- the verdict of each call
unfoldable pub verdicts : List ℕ → Stream → ℕ → List (List ℕ) → List Verdict
verdicts s stream from [] = []
verdicts s stream from (d ∷ ds) = (copy_of s stream from d).verdict ∷ verdicts s stream (from + (copy_of s stream from d).count) ds

-- the room that the buffers have together
abbrev pub room : List (List ℕ) → ℕ
room ds = sum_by length ds
