-- Writing one COSE_Sign1: what is answered, and what the output buffer then holds. 28, then 14.
-- Assumes nothing.
use Rattle.std.specs.Prelude.{ℕ, not, List, ◌≡◌, length, take}
use Rattle.eif.specs.Numbers.{not_sign1}
use Rattle.octets.specs.Logic.{choose}
use Rattle.eif.specs.Answers.{refuse, and_then}
use Rattle.eif.specs.Output.{room_verdict, written_for, output_for}
use Rattle.eif.specs.declared.Written.{Written}
use Rattle.eif.specs.declared.Verdict.{Verdict}
use Rattle.eif.specs.declared.Verdict.TheVariants.{Accepted}
use Rattle.cose.specs.Sign1.{signature_fits, sign1_bytes, Typed}
use Rattle.cose.specs.declared.Claim.{Claim}

-- 28
abbrev pub claim_verdict : Claim → List ℕ → Verdict
claim_verdict c signature = choose (not (signature_fits c.algorithm (length signature))) (refuse not_sign1 0) Accepted

-- for so many bytes of room
unfoldable pub sign1_verdict : Claim → List ℕ → ℕ → Verdict
sign1_verdict c signature room =
    and_then (claim_verdict c signature) (room_verdict room (length (sign1_bytes c signature)))

unfoldable pub sign1_answer : Claim → List ℕ → ℕ → Written
sign1_answer c signature room = written_for (sign1_verdict c signature room) (length (sign1_bytes c signature))

-- the buffer d after it
unfoldable pub sign1_output : Claim → List ℕ → List ℕ → List ℕ
sign1_output c signature d = output_for (sign1_verdict c signature (length d)) (sign1_bytes c signature) d

-- what the writer wrote into some buffer: as many of its first bytes as the answer says
pub record IsWritten (s : List ℕ) : Type 0 where
  pub claim : Claim
  pub signature : List ℕ
  pub buffer : List ℕ
  pub typed : Typed claim signature
  pub accepted : (sign1_answer claim signature (length buffer)).verdict ≡ Accepted
  pub bytes : s ≡ take (sign1_answer claim signature (length buffer)).length (sign1_output claim signature buffer)
