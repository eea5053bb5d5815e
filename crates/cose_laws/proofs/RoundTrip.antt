-- What is written reads back; each byte string is that of one claim only; and none begins another.
-- Assumes nothing.
use Prim.Native.Nat.{ℕ, ◌+◌, ◌-◌, ◌≤◌}
use mathlib.Core.Path.{◌≡◌, refl, sym, ap, ap₂, ◌∙◌}
use mathlib.Core.List.{List, [], ◌++◌, append-nil}
use native.Mathlib.Omega.{arith}
use lib.ListN.{length, take, drop, length-append}
use lib.Seq.{take_at, drop_at}
use Rattle.octets.proofs.Lists.{none_of}
use Rattle.octets.proofs.Over.{over_start}
use Rattle.eif.specs.Output.{written_for}
use Rattle.eif.specs.declared.Verdict.TheVariants.{Accepted}
use Rattle.cose.specs.Sign1.{signature_size, Writable, sign1_bytes}
use Rattle.cose.specs.Write.{sign1_answer, sign1_output}
use Rattle.cose.specs.Read.{algorithm_of, signature_start, claim_of, signature_of, accepted_sign1, read_sign1}
use Rattle.cose.specs.declared.Claim.{Claim}
use Rattle.cose_lemmas.proofs.Answers.{fine}
use Rattle.octets.proofs.Same.{equal_same}
use Rattle.cose_lemmas.proofs.Same.{read_same}
use Rattle.cose_laws.proofs.Places.{sized, sign1_then, algorithm_same, claim_same, signature_same, end_same}

-- ---- what is written reads back: the same claim, and its signature is the last bytes

module _ (c : Claim) (sig : List ℕ) (writable : Writable c sig) where
  whole_is : sign1_then c sig writable [] ≡ sign1_bytes c sig
  whole_is = append-nil (sign1_bytes c sig)

  abbrev s : List ℕ
  s = sign1_bytes c sig

  claim_back : claim_of s ≡ c
  claim_back = ap claim_of (sym whole_is) ∙ claim_same c sig writable []

  signature_back : signature_of s ≡ sig
  signature_back = ap signature_of (sym whole_is) ∙ signature_same c sig writable [] ∙ append-nil sig

  algorithm_back : algorithm_of s ≡ c.algorithm
  algorithm_back = ap algorithm_of (sym whole_is) ∙ algorithm_same c sig writable []

  end_back : signature_start s + length sig ≡ length s
  end_back = ap (λ (l : List ℕ). signature_start l + length sig) (sym whole_is) ∙ end_same c sig writable []

  size_back : length sig ≡ signature_size (algorithm_of s)
  size_back = sized c sig writable ∙ ap signature_size (sym algorithm_back)

  pub reads_back : read_sign1 (sign1_bytes c sig) ≡ accepted_sign1 c (length (sign1_bytes c sig) - length sig) (length sig)
  reads_back =
      let size : length s ≡ signature_start s + signature_size (algorithm_of s) = let e = end_back in let f = size_back in omega arith in
      let at : signature_start s ≡ length s - length sig = let e = end_back in omega arith in
      sym (read_same s size (equal_same s (sign1_bytes (claim_of s) (signature_of s)) (sym (ap₂ sign1_bytes claim_back signature_back))))
      ∙ ap (λ (q : Claim). accepted_sign1 q (signature_start s) (signature_size (algorithm_of s))) claim_back
      ∙ ap₂ (accepted_sign1 c) at (sym size_back)

  pub signature_stands : drop (length (sign1_bytes c sig) - length sig) (sign1_bytes c sig) ≡ sig
  unfolding signature_of
  signature_stands =
      let at : signature_start s ≡ length s - length sig = let e = end_back in omega arith in
      ap (λ (k : ℕ). drop k s) (sym at) ∙ signature_back

  -- the writer leaves these bytes at the buffer's start, and the later bytes as they were
  pub written_part : (d : List ℕ) → length (sign1_bytes c sig) ≤ length d
      → (sign1_answer c sig (length d) ≡ written_for Accepted (length (sign1_bytes c sig)))
      × (take (length (sign1_bytes c sig)) (sign1_output c sig d) ≡ sign1_bytes c sig)
      × (drop (length (sign1_bytes c sig)) (sign1_output c sig d) ≡ drop (length (sign1_bytes c sig)) d)
  written_part d room =
      let f = fine c sig d writable.fits room in
      let o : sign1_output c sig d ≡ s ++ drop (length s) d = sym f.1 ∙ over_start d s room in (
        sym f.0,
        ap (take (length s)) o ∙ take_at s (drop (length s) d) (length s) refl,
        ap (drop (length s)) o ∙ drop_at s (drop (length s) d) (length s) refl,
      )

-- ---- one claim only

module _ (c : Claim) (sig : List ℕ) (writable : Writable c sig) (k : Claim) (tag : List ℕ) (other : Writable k tag) where
  pub one_claim : sign1_bytes c sig ≡ sign1_bytes k tag → (c ≡ k) × (sig ≡ tag)
  one_claim e = (
    sym (claim_back c sig writable) ∙ ap claim_of e ∙ claim_back k tag other,
    sym (signature_back c sig writable) ∙ ap signature_of e ∙ signature_back k tag other,
  )

  -- none begins another: nothing follows the bytes of a claim in those of another
  pub none_begins : (t : List ℕ) → sign1_bytes k tag ≡ sign1_bytes c sig ++ t → t ≡ []
  none_begins t e =
      let w = sign1_bytes c sig ++ t in
      let a : c.algorithm ≡ k.algorithm = sym (algorithm_same c sig writable t) ∙ ap algorithm_of (sym e) ∙ algorithm_back k tag other in
      let m = end_same c sig writable t in
      let n = end_back k tag other in
      let p = ap signature_start e in
      let q : length sig ≡ length tag = sized c sig writable ∙ ap signature_size a ∙ sym (sized k tag other) in
      let r = ap length e ∙ length-append (sign1_bytes c sig) t in
      none_of t (omega arith)
