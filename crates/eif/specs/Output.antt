-- What a writer answers, and what a call does to an output buffer (FORMAT.md, Answer numbers).
-- Assumes nothing.
use Rattle.std.specs.Prelude.{ℕ, List, ltb}
use Rattle.octets.specs.Logic.{choose}
use Rattle.octets.specs.Over.{over}
use Rattle.eif.specs.Numbers.{output_too_short}
use Rattle.eif.specs.Answers.{refuse, beside}
use Rattle.eif.specs.declared.Written.{Written}
use Rattle.eif.specs.declared.Verdict.{Verdict}
use Rattle.eif.specs.declared.Verdict.TheVariants.{Accepted, Refused}

-- 14, for so many bytes of room and so many to write
abbrev pub room_verdict : ℕ → ℕ → Verdict
room_verdict room size = choose (ltb room size) (refuse output_too_short 0) Accepted

-- the verdict, and beside it how many bytes are written
abbrev pub written_for : Verdict → ℕ → Written
written_for verdict size = record { verdict = verdict; length = beside verdict size 0 }

-- the buffer d after an answer: the bytes over its start and later bytes as they were, or, refused, every byte as it was
abbrev pub output_for : Verdict → List ℕ → List ℕ → List ℕ
output_for Accepted bytes d = over d 0 bytes
output_for (Refused r) bytes d = d
