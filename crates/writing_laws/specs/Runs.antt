-- Runs of steps of the writer in pieces, each given the state as the last one left it (FORMAT.md, Writing in pieces).
use Rattle.std.specs.Prelude.{ℕ, List, [], ◌∷◌, ◌++◌, take}
use Rattle.octets.specs.Bytes.{be_bytes}
use Rattle.eif.specs.Plan.{data_before, header_bytes, body_bytes}
use Rattle.eif.specs.declared.Plan.{Plan}
use Rattle.writing.specs.Writing.{writing_begun, writing_stepped, step_bytes}
use Rattle.writing.specs.declared.Writing.{Writing}

-- a step: the data lent, and how long the output buffer is
pub record WriteStep : Type 0 where
  pub lent : List ℕ
  pub room : ℕ

-- the state after a step, the data that it takes, and the bytes that it writes
abbrev pub after_step : Writing → WriteStep → Writing
after_step a t = (writing_stepped a t.lent t.room).state

abbrev pub step_data : Writing → WriteStep → List ℕ
step_data a t = take (writing_stepped a t.lent t.room).taken t.lent

abbrev pub bytes_of_step : Writing → WriteStep → List ℕ
bytes_of_step a t = step_bytes a t.lent t.room

-- the same for a run of steps
unfoldable pub after_steps : Writing → List WriteStep → Writing
after_steps a [] = a
after_steps a (t ∷ ts) = after_steps (after_step a t) ts

unfoldable pub data_taken : Writing → List WriteStep → List ℕ
data_taken a [] = []
data_taken a (t ∷ ts) = step_data a t ++ data_taken (after_step a t) ts

unfoldable pub bytes_written : Writing → List WriteStep → List ℕ
bytes_written a [] = []
bytes_written a (t ∷ ts) = bytes_of_step a t ++ bytes_written (after_step a t) ts

-- a run of steps from begin: the state after it, the data that it takes, and the bytes that it writes
abbrev pub run_state : Plan → ℕ → List WriteStep → Writing
run_state p field ts = after_steps (writing_begun p field).state ts

abbrev pub run_data : Plan → ℕ → List WriteStep → List ℕ
run_data p field ts = data_taken (writing_begun p field).state ts

abbrev pub run_bytes : Plan → ℕ → List WriteStep → List ℕ
run_bytes p field ts = bytes_written (writing_begun p field).state ts

-- how much data a plan needs
abbrev pub data_needed : Plan → ℕ
data_needed p = data_before p.places p.count

-- the plain image of a plan and data, but with a number in the checksum field
unfoldable pub image_with : Plan → ℕ → List ℕ → List ℕ
image_with p field given = header_bytes p ++ (be_bytes 4 field ++ body_bytes p given)
