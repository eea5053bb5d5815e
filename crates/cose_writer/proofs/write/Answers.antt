use Prim.Native.Nat.{ℕ, ◌+◌, ◌<◌, ◌≤◌}
use mathlib.Core.Bool.{true}
use mathlib.Core.Path.{◌≡◌, ap, ◌∙◌}
use mathlib.Core.List.{List}
use native.Mathlib.Omega.{arith}
use lib.ListN.{length}
use Rattle.eif.specs.declared.Verdict.TheVariants.{Accepted}
use Rattle.eif.specs.Output.{written_for}
use Rattle.cose.specs.Cbor.{in_one_byte, one_byte_limit}
use Rattle.cose.specs.Sign1.{signature_size, signature_fits, sign1_bytes}
use Rattle.cose.specs.declared.Claim.{Claim}
use Rattle.cose_lemmas.proofs.Parts.{size_bounds, sign_size}
use Rattle.cose_lemmas.proofs.Answers.{fitting_yes, fitting_none, fitting_not, unfit, short, fine}
use Rattle.cose_writer.proofs.write.Goals as goal
use Rattle.cose_writer.proofs.write.Goals.{After-payload_size}

-- `cose_writer::write` meets its contract: by the algorithm, the signature and the room it gives one of the definition's answers. Assumes nothing.
pub returns-then-size-eq0 : goal.returns-then-size-eq0
returns-then-size-eq0 c = let a = c.args in
    let s = a.signature.now in
    let u = unfit a.claim s a.out.now (fitting_none a.claim.algorithm (length s) (omega arith)) in
    record { value = c.refused.ensures ∙ u.0; out_after = u.1 }

pub returns-then-signature-size : goal.returns-then-signature-size
returns-then-signature-size c = let a = c.args in
    let s = a.signature.now in
    let u = unfit a.claim s a.out.now (fitting_not a.claim.algorithm (length s) (omega arith) (λ e. omega arith)) in
    record { value = c.refused-then-signature-size.ensures ∙ u.0; out_after = u.1 }

-- measured: the total is that of the bytes
module _ (c : After-payload_size) where
  abbrev claim : Claim
  claim = c.args.claim

  abbrev s : List ℕ
  s = c.args.signature.now

  abbrev d : List ℕ
  d = c.args.out.now

  known : 0 < signature_size claim.algorithm
  known = omega arith

  sized : length s ≡ signature_size claim.algorithm
  sized = omega arith

  fit : signature_fits claim.algorithm (length s) ≡ true
  fit = fitting_yes claim.algorithm (length s) known sized

  large : (in_one_byte ≤ length s) × (length s < one_byte_limit)
  large = let l = size_bounds claim.algorithm known in let e = sized in (omega arith, omega arith)

  total : c.opening_size.result + 2 + c.payload_size.result + 2 + c.signature_size-size.result
      ≡ length (sign1_bytes claim s)
  total = let l = large in let e = sized in let z = sign_size claim s (omega arith) (omega arith) l.0 l.1 in omega arith

pub returns-then-out-total : goal.returns-then-out-total
returns-then-out-total c = let m = (goal.at.returns-then-out-total c).After-payload_size in
    let e = total m in
    let u = short (claim m) (s m) (d m) (fit m) (omega arith) in
    record { value = c.refused-then-out-total.ensures ∙ u.0; out_after = u.1 }

pub put_sign1-requires : goal.put_sign1-requires
put_sign1-requires c = record { algorithm_nonzero = known (goal.at.put_sign1-requires c).After-payload_size; in_one_byte_in_bounds = large (goal.at.put_sign1-requires c).After-payload_size }

pub returns : goal.returns
returns c = let m = (goal.at.returns c).After-payload_size in
    let e = total m in
    let u = fine (claim m) (s m) (d m) (fit m) (omega arith) in
    record { value = ap (written_for Accepted) e ∙ u.0; out_after = c.put_sign1.ensures ∙ u.1 }
