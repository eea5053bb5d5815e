-- A refusal carries the first number that applies, in the order of the lists of rules.
-- Assumes nothing.
use Prim.Native.Nat.{ℕ}
use mathlib.Core.Bool.{Bool, true, false, not}
use mathlib.Core.Path.{◌≡◌, refl}
use mathlib.Core.List.{List}
use lib.ListN.{length}
use Rattle.eif.specs.Numbers.{not_sign1}
use Rattle.octets.specs.Logic.{choose}
use Rattle.eif.specs.Answers.{refuse}
use Rattle.eif.specs.Output.{room_verdict}
use Rattle.eif.specs.Order.{first_that_applies}
use Rattle.eif.specs.declared.Verdict.TheVariants.{Accepted}
use Rattle.eif_lemmas.proofs.Verdicts.{then_choose}
use Rattle.cose.specs.Sign1.{signature_size, signature_fits, sign1_bytes}
use Rattle.cose.specs.Write.{sign1_verdict, sign1_answer}
use Rattle.cose.specs.Read.{algorithm_of, signature_start, claim_of, sign1_formed, accepted_sign1, refused_sign1, read_sign1}
use Rattle.cose.specs.Order.{sign1_write_rules, sign1_read_rules}
use Rattle.cose.specs.declared.Claim.{Claim}

-- writing: 28, then 14
pub sign1_write_first : (c : Claim) (signature : List ℕ) (room : ℕ) → (sign1_answer c signature room).verdict ≡ first_that_applies (sign1_write_rules c signature room)
unfolding sign1_answer sign1_verdict sign1_write_rules first_that_applies
sign1_write_first c signature room =
    then_choose (not (signature_fits c.algorithm (length signature))) (record { number = not_sign1; index = 0; position = 0 })
    Accepted (room_verdict room (length (sign1_bytes c signature)))

-- reading: 28
read_by : (c : Claim) (position size : ℕ) (b : Bool) → (choose b (accepted_sign1 c position size) refused_sign1).verdict ≡ choose (not b) (refuse not_sign1 0) Accepted
unfolding accepted_sign1 refused_sign1
read_by c position size true = refl
read_by c position size false = refl

pub sign1_read_first : (s : List ℕ) → (read_sign1 s).verdict ≡ first_that_applies (sign1_read_rules s)
unfolding read_sign1 sign1_read_rules first_that_applies
sign1_read_first s = read_by (claim_of s) (signature_start s) (signature_size (algorithm_of s)) (sign1_formed s)
