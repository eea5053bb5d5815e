-- Runs of steps that write a staged view in pieces (FORMAT.md, Writing in pieces). s is the base, r the replacement; a step is given by the length of
-- its output buffer.
use Rattle.std.specs.Prelude.{ℕ, List, [], ◌∷◌, ◌++◌}
use Rattle.writing.specs.Writing.{step_bytes}
use Rattle.writing_laws.specs.Runs.{WriteStep}
use Rattle.staged_writing.specs.StagedWriting.{staged_begun, due_data, staged_stepped}
use Rattle.staged_writing.specs.declared.StagedWriting.{StagedWriting}

-- the bytes that a step writes
abbrev pub staged_bytes_of : StagedWriting → List ℕ → List ℕ → ℕ → List ℕ
staged_bytes_of a s r room = step_bytes a.writing (due_data a s r) room

-- the state after a run, and the bytes that it writes
unfoldable pub after_staged_steps : StagedWriting → List ℕ → List ℕ → List ℕ → StagedWriting
after_staged_steps a s r [] = a
after_staged_steps a s r (room ∷ rooms) = after_staged_steps (staged_stepped a s r room).state s r rooms

unfoldable pub staged_bytes_written : StagedWriting → List ℕ → List ℕ → List ℕ → List ℕ
staged_bytes_written a s r [] = []
staged_bytes_written a s r (room ∷ rooms) = staged_bytes_of a s r room ++ staged_bytes_written (staged_stepped a s r room).state s r rooms

-- the same run as steps of writing, each lent the data that is due
unfoldable pub staged_steps : StagedWriting → List ℕ → List ℕ → List ℕ → List WriteStep
staged_steps a s r [] = []
staged_steps a s r (room ∷ rooms) = record { lent = due_data a s r; room = room } ∷ staged_steps (staged_stepped a s r room).state s r rooms

-- a run of steps from begin: the state after it, and the bytes that it writes; k is the number of the replaced section
abbrev pub staged_run_state : List ℕ → List ℕ → ℕ → ℕ → List ℕ → StagedWriting
staged_run_state s r k field rooms = after_staged_steps (staged_begun s r k field).state s r rooms

abbrev pub staged_run_bytes : List ℕ → List ℕ → ℕ → ℕ → List ℕ → List ℕ
staged_run_bytes s r k field rooms = staged_bytes_written (staged_begun s r k field).state s r rooms
