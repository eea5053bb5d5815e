-- Hashing a roll record by record gives the digest of the whole roll.
use Prim.Native.Nat.{ℕ, ◌+◌, ◌<◌, ◌≤◌}
use mathlib.Core.Path.{◌≡◌, sym, ap, ◌∙◌}
use mathlib.Core.Bool.{Bool, true, false}
use mathlib.Core.List.{List, [], ◌∷◌, ◌++◌, append_assoc, append-nil}
use native.Mathlib.Omega.{arith}
use native.Mathlib.Numerals.{add-one}
use lib.ListN.{length, drop, get_or, length-append, drop_of_length-le}
use lib.Seq.{drop-cons}
use Rattle.octets.specs.Lists.{joined_by}
use Rattle.octets.specs.Logic.{choose}
use Rattle.eif.specs.Reading.{blank_section}
use Rattle.eif.specs.Rules.{boot_type}
use Rattle.eif.specs.Roll.{head_of, flags_record, end_type}
use Rattle.eif.specs.declared.Section.{Section}
use Rattle.roll_writer.specs.Write.{roll_part, roll_for, sections_roll}
use Rattle.roll_writer.proofs.Steps.{sections_roll_holds}
use Rattle.sha384_block.specs.Fips.{sha384}
use Rattle.sha384.specs.State.{initial_state, more_hashed, state_after, digest_from, total_limit}
use Rattle.sha384.specs.declared.State.{State}
use Rattle.sha384_laws.proofs.Fed.{fresh_fed, fed_nothing, fresh_finished}
use Rattle.sha384_laws.proofs.Pieces.{after_more}
use Rattle.eif_fingerprint.specs.Fingerprint.{record_hashed, records_hashed, roll_digest}

module _ (held : Section → List ℕ) where
  -- ---- the code's steps

  module _ (roll : State) (x : Section) where
    pub record_boot : boot_type x.kind ≡ true → record_hashed held roll x ≡ more_hashed (more_hashed roll (head_of (length (held x)) x.kind)) (held x)
    unfolding record_hashed
    record_boot e = simp e

    pub record_other : boot_type x.kind ≡ false → record_hashed held roll x ≡ roll
    unfolding record_hashed
    record_other e = simp e

  pub records_next : (roll : State) (l : List Section) (i : ℕ) → i < length l
      → records_hashed held roll (drop i l) ≡ records_hashed held (record_hashed held roll (get_or l i blank_section)) (drop (i + 1) l)
  unfolding records_hashed
  records_next roll l i h =
      ap (records_hashed held roll) (drop-cons l i blank_section h)
      ∙ ap (λ (k : ℕ). records_hashed held (record_hashed held roll (get_or l i blank_section)) (drop k l)) (sym (add-one i))

  pub records_end : (roll : State) (l : List Section) (i : ℕ) → length l ≤ i → records_hashed held roll (drop i l) ≡ roll
  unfolding records_hashed
  records_end roll l i h = ap (records_hashed held roll) (drop_of_length-le l {i = i} h)

  -- ---- from the hash state of bytes

  record_more : (s : List ℕ) (x : Section) → length (s ++ roll_part held x) ≤ total_limit → record_hashed held (state_after s) x ≡ state_after (s ++ roll_part held x)
  unfolding record_hashed roll_part
  record_more s x h = by (boot_type x.kind) h
    where
      head : List ℕ
      head = head_of (length (held x)) x.kind

      by : (b : Bool) → length (s ++ choose b (head_of (length (held x)) x.kind ++ held x) []) ≤ total_limit
          → choose b (more_hashed (more_hashed (state_after s) (head_of (length (held x)) x.kind)) (held x)) (state_after s)
          ≡ state_after (s ++ choose b (head_of (length (held x)) x.kind ++ held x) [])
      by true g =
          let a = length-append s (head ++ held x) in
          let b = length-append head (held x) in
          let c = length-append s head in
          let d = length-append (s ++ head) (held x) in
          ap (λ (st : State). more_hashed st (held x)) (after_more s head (omega arith)) ∙ after_more (s ++ head) (held x) (omega arith)
          ∙ ap state_after (append_assoc s head (held x))
      by false g = ap state_after (sym (append-nil s))

  records_more : (s : List ℕ) (l : List Section) → length (s ++ joined_by (roll_part held) l) ≤ total_limit
      → records_hashed held (state_after s) l ≡ state_after (s ++ joined_by (roll_part held) l)
  unfolding records_hashed
  records_more s [] h = ap state_after (sym (append-nil s))
  records_more s (x ∷ xs) h =
      let rest = joined_by (roll_part held) xs in
      let a = length-append s (roll_part held x ++ rest) in
      let b = length-append (roll_part held x) rest in
      let c = length-append s (roll_part held x) in
      let d = length-append (s ++ roll_part held x) rest in
      ap (λ (st : State). records_hashed held st xs) (record_more s x (omega arith)) ∙ records_more (s ++ roll_part held x) xs (omega arith)
      ∙ ap state_after (append_assoc s (roll_part held x) rest)

  -- the digest of a roll within SHA-384's limit
  pub roll_hashed : (flags : ℕ) (l : List Section) → length (sections_roll flags held l) ≤ total_limit → roll_digest flags held l ≡ sha384 (sections_roll flags held l)
  unfolding roll_digest roll_for
  roll_hashed flags l h =
      let first = flags_record flags in
      let records = joined_by (roll_part held) l in
      let last = head_of 0 end_type in
      let whole : first ++ (records ++ last) ≡ sections_roll flags held l = sections_roll_holds held flags l in
      let n = ap length whole in
      let a = length-append first (records ++ last) in
      let b = length-append records last in
      let c = length-append first records in
      let d = length-append (first ++ records) last in
      let start : initial_state ≡ state_after [] = sym (fed_nothing initial_state) ∙ fresh_fed [] in
      ap (λ (st : State). digest_from (more_hashed (records_hashed held (more_hashed st first) l) last)) start
      ∙ ap (λ (st : State). digest_from (more_hashed (records_hashed held st l) last)) (after_more [] first (omega arith))
      ∙ ap (λ (st : State). digest_from (more_hashed st last)) (records_more first l (omega arith))
      ∙ ap digest_from (after_more (first ++ records) last (omega arith))
      ∙ fresh_finished ((first ++ records) ++ last)
      ∙ ap sha384 (append_assoc first records last ∙ whole)
