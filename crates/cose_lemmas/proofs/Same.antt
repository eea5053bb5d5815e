-- What was written into a buffer, compared with a byte string.
-- Assumes nothing.
use Prim.Native.Nat.{ℕ, ◌+◌, ◌-◌, ◌≤◌}
use mathlib.Core.Bool.{Bool, true, false}
use mathlib.Core.Path.{◌≡◌, refl, sym, ap, ap₂, ◌∙◌}
use mathlib.Core.List.{List}
use mathlib.Core.Logic.{⊎_elim}
use native.Mathlib.Omega.{arith}
use borrow.Author.Tests.{eq-eqb, ne_eqb}
use borrow.Author.Rules.{part_to_end}
use lib.Dec.{eqb}
use lib.ListN.{length, get_or, take, drop, length-drop}
use lib.Seq.{take_at}
use Rattle.octets.proofs.Logic.{le_or_lt}
use Rattle.octets.proofs.Over.{over_start}
use Rattle.octets.specs.Logic.{choose}
use Rattle.octets.specs.Same.{same_bytes}
use Rattle.octets.proofs.Same.{not_same}
use Rattle.eif.specs.declared.Written.{Written}
use Rattle.cose.specs.Sign1.{register_size, es256, es384, es512, shortest_signature, longest_signature, signature_size, signature_fits, sign1_bytes}
use Rattle.cose.specs.Write.{sign1_answer, sign1_output}
use Rattle.cose.specs.Read.{number_at, number_end, bytes_from, bytes_end, algorithm_of, index_start, value_start, signature_start, claim_of, signature_of, sign1_formed, read_sign1, accepted_sign1, refused_sign1}
use Rattle.cose.specs.declared.Claim.{Claim}
use Rattle.cose_lemmas.proofs.Answers.{fitting_yes, short, fine}

-- ---- the claim that a byte string could make

pub algorithm_known : (s : List ℕ) → (shortest_signature ≤ signature_size (algorithm_of s)) × (signature_size (algorithm_of s) ≤ longest_signature)
unfolding algorithm_of signature_size
algorithm_known s = by (eqb (get_or s 1 0) 67) (eqb (get_or s 5 0) 34)
  where
    by : (a b : Bool) → (shortest_signature ≤ signature_size (choose a es256 (choose b es384 es512))) × (signature_size (choose a es256 (choose b es384 es512)) ≤ longest_signature)
    by true b = (omega arith, omega arith)
    by false true = (omega arith, omega arith)
    by false false = (omega arith, omega arith)

module _ (s : List ℕ) (sized : length s ≡ signature_start s + signature_size (algorithm_of s)) where
  pub signature_size_holds : length (signature_of s) ≡ signature_size (algorithm_of s)
  unfolding signature_of
  signature_size_holds = length-drop (signature_start s) s ∙ (let e : length s - signature_start s ≡ signature_size (algorithm_of s) = omega arith in e)

  pub signature_fits_holds : signature_fits (algorithm_of s) (length (signature_of s)) ≡ true
  signature_fits_holds = let h = algorithm_known s in fitting_yes (algorithm_of s) (length (signature_of s)) (omega arith) signature_size_holds

  module _ (d : List ℕ) where
    abbrev made : List ℕ
    made = sign1_bytes (claim_of s) (signature_of s)

    abbrev answer : Written
    answer = sign1_answer (claim_of s) (signature_of s) (length d)

    fit : signature_fits (claim_of s).algorithm (length (signature_of s)) ≡ true
    unfolding claim_of
    fit = signature_fits_holds

    -- another length was written: another byte string
    pub written_other : length s ≤ length d → (answer.length ≡ length s → ⊥) → same_bytes s made ≡ false
    written_other room differ =
        not_same s made (λ e.
        let n : length s ≡ length made = ap length e in
        differ (sym (ap (λ (w : Written). w.length) (fine (claim_of s) (signature_of s) d fit (omega arith)).0) ∙ sym n))

    -- the same length was written: the buffer's first bytes are those of the claim
    pub written_same : answer.length ≡ length s → (take (length s) (sign1_output (claim_of s) (signature_of s) d) ≡ made) × (length made ≡ length s)
    written_same e =
        ⊎_elim
        (λ h.
        let f = fine (claim_of s) (signature_of s) d fit h in
        let n : length made ≡ length s = ap (λ (w : Written). w.length) f.0 ∙ e in
        (ap (take (length s)) (sym f.1 ∙ over_start d made h) ∙ take_at made (drop (length made) d) (length s) n, n))
        (λ h.
        let z = ap (λ (w : Written). w.length) (short (claim_of s) (signature_of s) d fit h).0 in
        let k = algorithm_known s in
        absurd (omega arith))
        (le_or_lt (length made) (length d))

-- ---- the reading

module _ (s : List ℕ) where
  pub read_sized : (length s ≡ signature_start s + signature_size (algorithm_of s) → ⊥) → refused_sign1 ≡ read_sign1 s
  unfolding read_sign1 sign1_formed
  read_sized differ = simp (ne_eqb _ _ differ)

  module _ (sized : length s ≡ signature_start s + signature_size (algorithm_of s)) where
    pub read_other : same_bytes s (sign1_bytes (claim_of s) (signature_of s)) ≡ false → refused_sign1 ≡ read_sign1 s
    unfolding read_sign1 sign1_formed
    read_other e = simp (eq-eqb _ _ sized, e)

    pub read_same : same_bytes s (sign1_bytes (claim_of s) (signature_of s)) ≡ true
        → accepted_sign1 (claim_of s) (signature_start s) (signature_size (algorithm_of s)) ≡ read_sign1 s
    unfolding read_sign1 sign1_formed
    read_same e = simp (eq-eqb _ _ sized, e)

-- ---- the parts that the code reads are those of the definition

module _ (s : List ℕ) where
  abbrev pub claim : ℕ → ℕ → List ℕ → Claim
  claim a n v = record { algorithm = a; register_index = n; register_value = v }

  module _ {f m : ℕ} (from : f ≡ index_start s) (next : m ≡ number_end s f) where
    next_is : m + 17 ≡ value_start s
    unfolding value_start
    next_is = ap (λ (k : ℕ). k + 17) (next ∙ ap (number_end s) from)

    pub claim_is : {a n : ℕ} {v : List ℕ} → a ≡ algorithm_of s → n ≡ number_at s f → v ≡ bytes_from s register_size (m + 17) → claim a n v ≡ claim_of s
    unfolding claim_of
    claim_is {a} {n} {v} p q r =
        ap₂ (λ (x y : ℕ). claim x y v) p (q ∙ ap (number_at s) from)
        ∙ ap (claim (algorithm_of s) (number_at s (index_start s))) (r ∙ ap (bytes_from s register_size) next_is)

    pub start_is : {e : ℕ} → e ≡ bytes_end s register_size (m + 17) → e + 2 ≡ signature_start s
    unfolding signature_start
    start_is p = ap (λ (k : ℕ). k + 2) (p ∙ ap (bytes_end s register_size) next_is)

  pub signature_is : (start : ℕ) → start ≡ signature_start s → take (length s - start) (drop start s) ≡ signature_of s
  unfolding signature_of
  signature_is start e = part_to_end s start ∙ ap (λ (k : ℕ). drop k s) e

  pub claim_algorithm : (claim_of s).algorithm ≡ algorithm_of s
  unfolding claim_of
  claim_algorithm = refl
