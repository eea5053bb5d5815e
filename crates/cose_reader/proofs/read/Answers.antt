use Prim.Native.Nat.{ℕ, ◌+◌}
use mathlib.Core.Path.{◌≡◌, sym, ap, ap₂, ◌∙◌}
use mathlib.Core.List.{List}
use native.Mathlib.Omega.{arith}
use lib.ListN.{length}
use Rattle.cose.specs.Sign1.{signature_size}
use Rattle.cose.specs.Read.{algorithm_of, signature_start, claim_of, accepted_sign1}
use Rattle.cose.specs.declared.Claim.{Claim}
use Rattle.cose_lemmas.proofs.Same.{claim_algorithm, read_sized, read_other, read_same}
use Rattle.cose_reader.proofs.read.Goals as goal
use Rattle.cose_reader.proofs.read.Goals.{After-signature_size-size, Else-s-end}

-- `cose_reader::read` meets its contract: by the length and the comparison it gives one of the definition's two answers. Assumes nothing.
module _ (c : After-signature_size-size) where
  abbrev s : List ℕ
  s = c.args.s.now

  claim : c.parts_of-parts.result.claim ≡ claim_of s
  claim = c.parts_of-parts.ensures.claim_value

  start : c.parts_of-parts.result.start ≡ signature_start s
  start = c.parts_of-parts.ensures.start_value

  size : c.signature_size-size.result ≡ signature_size (algorithm_of s)
  size = c.signature_size-size.ensures.value ∙ ap (λ (q : Claim). signature_size q.algorithm) claim ∙ ap signature_size (claim_algorithm s)

-- the length fits
module _ (c : Else-s-end) where
  sized : length (s (goal.at.Else-s-end c).After-signature_size-size) ≡ signature_start (s (goal.at.Else-s-end c).After-signature_size-size) + signature_size (algorithm_of (s (goal.at.Else-s-end c).After-signature_size-size))
  sized = let p = start (goal.at.Else-s-end c).After-signature_size-size in let q = size (goal.at.Else-s-end c).After-signature_size-size in omega arith

pub returns-then-s-end : goal.returns-then-s-end
returns-then-s-end c = let w = (goal.at.returns-then-s-end c).After-signature_size-size in
    c.refused.ensures ∙ read_sized (s w) (λ e. let p = start w in let q = size w in omega arith)

pub is_written-requires : goal.is_written-requires
is_written-requires c = record { claim_value = claim (goal.at.is_written-requires c).After-signature_size-size; start_value = start (goal.at.is_written-requires c).After-signature_size-size; s_len = sized (goal.at.is_written-requires c).Else-s-end; s_len_bound = omega arith; end_value = omega arith }

pub returns-then-not-is_written : goal.returns-then-not-is_written
returns-then-not-is_written c = let w = (goal.at.returns-then-not-is_written c).Else-s-end in
    c.refused-then-not-is_written.ensures
    ∙ read_other (s (goal.at.Else-s-end w).After-signature_size-size) (sized w) (sym c.is_written.ensures ∙ c.if-not-is_written.true)

pub returns : goal.returns
unfolding accepted_sign1
returns c = let w = (goal.at.returns c).Else-s-end in
    let m = (goal.at.Else-s-end w).After-signature_size-size in
    let p = m.parts_of-parts.result in
    ap (λ (q : Claim). accepted_sign1 q p.start m.signature_size-size.result) (claim m)
    ∙ ap₂ (accepted_sign1 (claim_of (s m))) (start m) (size m)
    ∙ read_same (s m) (sized w) (sym c.is_written.ensures ∙ c.if-not-is_written.false)
