-- The answers of writing a COSE_Sign1: the answer and the output together.
-- Assumes nothing.
use Prim.Native.Nat.{ℕ, ◌<◌, ◌≤◌}
use mathlib.Core.Bool.{true, false}
use mathlib.Core.Path.{◌≡◌}
use mathlib.Core.List.{List}
use borrow.Author.Tests.{lt-ltb, eq-eqb, ne_eqb}
use lib.ListN.{length}
use Rattle.octets.specs.Over.{over}
use Rattle.eif.specs.Numbers.{not_sign1, output_too_short}
use Rattle.eif.specs.Answers.{refuse}
use Rattle.eif.specs.Output.{written_for}
use Rattle.eif.specs.declared.Written.{Written}
use Rattle.eif.specs.declared.Verdict.TheVariants.{Accepted}
use Rattle.eif_lemmas.proofs.Room.{wrote_refused, wrote_short, wrote_fine}
use Rattle.cose.specs.Sign1.{signature_size, signature_fits, sign1_bytes}
use Rattle.cose.specs.Write.{claim_verdict, sign1_verdict, sign1_answer, sign1_output}
use Rattle.cose.specs.declared.Claim.{Claim}

-- ---- algorithm and signature

module _ (a n : ℕ) where
  pub fitting_yes : 0 < signature_size a → n ≡ signature_size a → signature_fits a n ≡ true
  unfolding signature_fits
  fitting_yes h e = simp (lt-ltb _ _ h, eq-eqb _ _ e)

  pub fitting_none : signature_size a ≡ 0 → signature_fits a n ≡ false
  unfolding signature_fits
  fitting_none e = rw e

  pub fitting_not : 0 < signature_size a → (n ≡ signature_size a → ⊥) → signature_fits a n ≡ false
  unfolding signature_fits
  fitting_not h e = simp (lt-ltb _ _ h, ne_eqb _ _ e)

-- ---- the answers

module _ (c : Claim) (s d : List ℕ) where
  -- the answer is w, and the output is e
  abbrev pub WroteSign1 : Written → List ℕ → Type 0
  WroteSign1 w e = (w ≡ sign1_answer c s (length d)) × (e ≡ sign1_output c s d)

  abbrev bytes : List ℕ
  bytes = sign1_bytes c s

  pub unfit : signature_fits c.algorithm (length s) ≡ false → WroteSign1 (written_for (refuse not_sign1 0) 0) d
  unfolding sign1_answer sign1_output sign1_verdict
  unfit e = wrote_refused (claim_verdict c s) (length bytes) bytes d (record { number = not_sign1; index = 0; position = 0 }) (simp e)

  module _ (fit : signature_fits c.algorithm (length s) ≡ true) where
    pub short : length d < length bytes → WroteSign1 (written_for (refuse output_too_short 0) 0) d
    unfolding sign1_answer sign1_output sign1_verdict
    short h = wrote_short (claim_verdict c s) (length bytes) bytes d (simp fit) h

    pub fine : length bytes ≤ length d → WroteSign1 (written_for Accepted (length bytes)) (over d 0 bytes)
    unfolding sign1_answer sign1_output sign1_verdict
    fine h = wrote_fine (claim_verdict c s) (length bytes) bytes d (simp fit) h
