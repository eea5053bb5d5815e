use Prim.Native.Nat.{ℕ, ◌+◌, ◌-◌}
use mathlib.Core.Path.{◌≡◌, sym, ap, ap₂, ◌∙◌}
use mathlib.Core.List.{List}
use native.Mathlib.Omega.{arith}
use lib.ListN.{length, take, drop, replicate}
use lib.Seq.{take-length}
use Rattle.eif.specs.declared.Written.{Written}
use Rattle.cose.specs.Sign1.{longest, signature_size, sign1_bytes}
use Rattle.cose.specs.Write.{sign1_answer, sign1_output}
use Rattle.cose.specs.Read.{algorithm_of, signature_start, claim_of, signature_of}
use Rattle.cose.specs.declared.Claim.{Claim}
use Rattle.octets.proofs.Same.{is_same}
use Rattle.cose_lemmas.proofs.Same.{signature_is, written_other, written_same}
use Rattle.cose_reader.proofs.is_written.Goals as goal
use Rattle.cose_reader.proofs.is_written.Goals.{After-write-written}

-- `cose_reader::is_written` meets its contract: the answer of the writer tells whether the lengths agree, and then the buffer starts with the written bytes. Assumes nothing.
module _ (c : After-write-written) where
  abbrev s : List ℕ
  s = c.args.s.now

  abbrev d : List ℕ
  d = replicate longest 0

  sized : length s ≡ signature_start s + signature_size (algorithm_of s)
  sized = c.requires.s_len

  ends : c.args.end ≡ length s
  ends = c.requires.end_value

  signature : take (c.args.end - c.args.start) (drop c.args.start s) ≡ signature_of s
  signature =
      ap (λ (n : ℕ). take (n - c.args.start) (drop c.args.start s)) ends
      ∙ signature_is s c.args.start c.requires.start_value

  answer : c.write-written.result ≡ sign1_answer (claim_of s) (signature_of s) longest
  answer = c.write-written.ensures.value ∙ ap₂ (λ (q : Claim) (x : List ℕ). sign1_answer q x longest) c.requires.claim_value signature

  output : c.write-written.new.out ≡ sign1_output (claim_of s) (signature_of s) d
  output = c.write-written.ensures.out_after ∙ ap₂ (λ (q : Claim) (x : List ℕ). sign1_output q x d) c.requires.claim_value signature

  length-is : c.write-written.result.length ≡ (sign1_answer (claim_of s) (signature_of s) longest).length
  length-is = ap (λ (w : Written). w.length) answer

  abbrev end : ℕ
  end = c.args.end

  -- all bytes stand before the end
  whole : take end s ≡ s
  whole = ap (λ (n : ℕ). take n s) ends ∙ take-length s

  -- the lengths agree
  module _ (agree : c.write-written.result.length ≡ end) where
    begins : (take end c.write-written.new.out ≡ sign1_bytes (claim_of s) (signature_of s)) × (length (sign1_bytes (claim_of s) (signature_of s)) ≡ end)
    begins =
        let e = written_same s sized d (sym length-is ∙ agree ∙ ends) in
        (ap₂ (λ (n : ℕ) (l : List ℕ). take n l) ends output ∙ e.0, e.1 ∙ sym ends)

pub returns-then-written-end : goal.returns-then-written-end
returns-then-written-end c = let w = (goal.at.returns-then-written-end c).After-write-written in
    sym (written_other (s w) (sized w) (d w) (omega arith) (λ e. c.if-written-end.true (length-is w ∙ e ∙ sym (ends w))))

pub slice_bounds-same-end : goal.slice_bounds-same-end
slice_bounds-same-end c = let w = (goal.at.slice_bounds-same-end c).After-write-written in
    ends w ∙ sym (ap length (whole w))

pub slice_bounds-same-end-2 : goal.slice_bounds-same-end-2
slice_bounds-same-end-2 c = let w = (goal.at.slice_bounds-same-end-2 c).After-write-written in
    let e = begins w (omega arith) in
    sym (ap length e.0 ∙ e.1)

pub returns : goal.returns
returns c = let w = (goal.at.returns c).After-write-written in
    let e = (begins w (omega arith)).0 in
    is_same c.same.result (s w) (sign1_bytes (claim_of (s w)) (signature_of (s w)))
    (λ t. sym (whole w) ∙ c.same.ensures.0 t ∙ e) (λ t. c.same.ensures.1 (whole w ∙ t ∙ sym e))
