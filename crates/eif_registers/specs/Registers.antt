-- The three registers of an image (FORMAT.md, Registers), of a staged view, and of any sections.
-- Assumes nothing.
use Rattle.std.specs.Prelude.{ℕ, List, [], ◌∷◌, ◌++◌, map, length, replicate}
use Rattle.eif.specs.Answers.{beside}
use Rattle.eif.specs.Reading.{verdict_of, data_of}
use Rattle.eif.specs.Stream.{stream_sections, stream_of}
use Rattle.eif.specs.declared.Reading.{Reading}
use Rattle.eif.specs.declared.Section.{Section}
use Rattle.eif.specs.declared.Stream.{Stream}
use Rattle.eif.specs.declared.Stream.TheVariants.{Whole, Boot, App}
use Rattle.eif.specs.declared.Verdict.{Verdict}
use Rattle.sha384_block.specs.Fips.{digest_size, sha384}
use Rattle.sha384.specs.State.{initial_state, digest_from, after_all}
use Rattle.sha384.specs.declared.State.{State}
use Rattle.staged.specs.Staged.{staged_verdict, afresh}
use Rattle.staged.specs.View.{held_by}
use Rattle.staged.specs.declared.Staged.{Staged}
use Rattle.eif_registers.specs.declared.Digest.{Digest}
use Rattle.eif_registers.specs.declared.Measurement.{Measurement}

-- ---- SHA-384 of forty-eight zero bytes followed by the stream's SHA-384

-- a register from the digest of its stream
unfoldable pub register_from : List ℕ → List ℕ
register_from digest = sha384 (replicate digest_size 0 ++ digest)

unfoldable pub register_of : List ℕ → Stream → List ℕ
register_of s stream = register_from (sha384 (stream_of s stream))

-- the streams of registers 0, 1 and 2
abbrev pub measured_streams : List Stream
measured_streams = Whole ∷ Boot ∷ App ∷ []

-- the registers of an image
unfoldable pub image_registers : List ℕ → List (List ℕ)
image_registers s = map (register_of s) measured_streams

-- all zero
unfoldable pub no_registers : List (List ℕ)
no_registers = replicate 3 (replicate digest_size 0)

-- as the answer holds them
abbrev pub as_digest : List ℕ → Digest
as_digest bytes = record { 0 = bytes }

abbrev pub registers_for : Verdict → List (List ℕ) → Measurement
registers_for verdict registers = record { verdict = verdict; registers = map as_digest registers }

-- a refusal and all zero, or an image's registers
abbrev pub registers_beside : Verdict → List ℕ → Measurement
registers_beside verdict s = registers_for verdict (beside verdict (image_registers s) no_registers)

-- of an image
unfoldable pub registers_answer : List ℕ → Measurement
registers_answer s = registers_beside (verdict_of s) s

-- of a staged view: those of the image written afresh with the replacement
unfoldable pub staged_registers : List ℕ → List ℕ → ℕ → Measurement
staged_registers s r k = registers_beside (staged_verdict s (length r) k k) (afresh s r k)

-- ---- the step over sections already found, for any sections and whatever their data is, also where these are not of one image

-- the state after the data of sections, one piece each
abbrev pub hashed : (Section → List ℕ) → State → List Section → State
hashed held st l = after_all st (map held l)

unfoldable pub step_register : (Section → List ℕ) → List Section → Stream → List ℕ
step_register held l stream = register_from (digest_from (hashed held initial_state (stream_sections stream l)))

unfoldable pub step_registers : (Section → List ℕ) → List Section → List (List ℕ)
step_registers held l = map (step_register held l) measured_streams

-- the registers of an image s that was read already, from its reading; all zero for a refused reading
unfoldable pub read_registers : List ℕ → Reading → List (List ℕ)
read_registers s r = beside r.verdict (step_registers (data_of s) r.sections) no_registers

-- the same from a staged view over base s and replacement r; all zero for a refused view
unfoldable pub view_registers : List ℕ → List ℕ → Staged → List (List ℕ)
view_registers s r x = beside x.verdict (step_registers (held_by s r) x.sections) no_registers
