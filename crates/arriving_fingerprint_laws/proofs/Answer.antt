-- Of an accepted image the whole roll but its end record has arrived, so the digest of the state is the fingerprint of the image.
use Prim.Native.Nat.{ℕ, zero, suc, ◌+◌, ◌<◌, ◌≤◌}
use mathlib.Core.Path.{◌≡◌, refl, sym, ap, ap₂, ◌∙◌}
use mathlib.Core.List.{List, [], ◌++◌, append_assoc}
use native.Mathlib.Omega.{arith}
use native.Mathlib.Nat.{zero-add}
use lib.ListN.{replicate, length-append}
use Rattle.octets.specs.Lists.{joined_by}
use Rattle.eif.specs.Answers.{beside}
use Rattle.eif.specs.Numbers.{place_count}
use Rattle.eif.specs.Layout.{header_flags_of, count_of, kind_at, size_at}
use Rattle.octets.specs.Logic.{choose}
use Rattle.eif.specs.Rules.{boot_type}
use Rattle.eif.specs.Reading.{verdict_of, data_of, blank_section, section_at, sections_of, read_image}
use Rattle.eif.specs.Roll.{head_of, end_type, flags_record, roll_bytes}
use Rattle.eif.specs.Table.{filled, join_from}
use Rattle.eif.specs.declared.Section.{Section}
use Rattle.eif.specs.declared.Verdict.{Verdict}
use Rattle.eif.specs.declared.Verdict.TheVariants.{Accepted, Refused}
use Rattle.eif_lemmas.proofs.Accept.{length_data, passes, sound_at}
use Rattle.eif_lemmas.proofs.Head.{length_head}
use Rattle.eif_lemmas.proofs.Reading.{verdict_is}
use Rattle.eif_lemmas.proofs.Table.{filled_same}
use Rattle.roll_writer.specs.Write.{roll_part, roll_for}
use Rattle.roll_writer.proofs.Steps.{roll_records}
use Rattle.sha384_block.specs.Fips.{sha384}
use Rattle.sha384.specs.State.{digest_from, state_after}
use Rattle.sha384_laws.proofs.Fed.{fresh_finished}
use Rattle.eif_fingerprint.specs.Fingerprint.{fingerprint_of, no_fingerprint, fingerprint_answer}
use Rattle.arriving.specs.State.{state_of}
use Rattle.arriving.specs.Calls.{answer_of}
use Rattle.arriving_laws.proofs.Answer.{answer_of_holds}
use Rattle.arriving_sections_laws.proofs.Accepted.{few_sections, all_placed, all_ordered, data_own}
use Rattle.arriving_sections_laws.proofs.Joined.{join_none}
use Rattle.arriving_sections_laws.proofs.Begun.{HasBegun}
use Rattle.sha384_laws.proofs.Pieces.{after_more}
use Rattle.arriving_fingerprint.specs.Fingerprinting.{fingerprint_beside, finished_fingerprinting}
use Rattle.arriving_fingerprint.proofs.Steps.{zeros_beside}
use Rattle.arriving_fingerprint_laws.specs.Roll.{record_so_far, flags_so_far, roll_so_far, fingerprinting_state}
use Rattle.arriving_fingerprint_laws.proofs.Growth.{record_in, record_out, roll_few, flags_whole}

-- ---- the roll of an accepted image

joined_blank : (f : Section → List ℕ) → f blank_section ≡ [] → (m : ℕ) → joined_by f (replicate m blank_section) ≡ []
joined_blank f e zero = refl
joined_blank f e (suc m) = ap₂ (λ (x y : List ℕ). x ++ y) e (joined_blank f e m)

module _ (s : List ℕ) (ok : verdict_of s ≡ Accepted) where
  abbrev part : Section → List ℕ
  part = roll_part (data_of s)

  part_blank : part blank_section ≡ []
  unfolding roll_part
  part_blank = refl

  has_begun : (i : ℕ) → i < count_of s → HasBegun s i
  has_begun i h =
      let a = (sound_at s ok i h).ends in
      let p = (all_placed s ok i h).0 in
      record { order = omega (arith, all_ordered s ok); own = omega arith }

  record_own : (i : ℕ) → i < count_of s → record_so_far s i ≡ part (section_at s i)
  unfolding roll_part
  record_own i h =
      record_in s i (has_begun i h)
      ∙ ap (λ (d : List ℕ). choose (boot_type (kind_at s i)) (head_of (size_at s i) (kind_at s i) ++ d) []) (data_own s ok i h)
      ∙ ap (λ (n : ℕ). choose (boot_type (kind_at s i)) (head_of n (kind_at s i) ++ data_of s (section_at s i)) []) (sym (length_data s (section_at s i) (sound_at s ok i h).ends))

  record_past : (i : ℕ) → count_of s ≤ i → record_so_far s i ≡ []
  record_past i h = record_out s i (λ k. omega (arith, all_ordered s ok, k.order))

  records_from : (m n i : ℕ) → i + n ≡ count_of s → n ≤ m → joined_by part (filled (λ k. section_at s (i + k)) blank_section m n) ≡ join_from (record_so_far s) m i
  unfolding join_from
  records_from zero n i e h = refl
  records_from (suc m) zero i e h =
      joined_blank part part_blank (suc m) ∙ sym (join_none (record_so_far s) (suc m) i (λ j l. record_past j (omega arith)))
  records_from (suc m) (suc n) i e h =
      let z : i + 0 ≡ i = omega arith in
      let same : (k : ℕ) → section_at s (i + suc k) ≡ section_at s (suc i + k) = λ k. (let w : i + suc k ≡ suc i + k = omega arith in ap (section_at s) w) in
      ap₂ (λ (x : Section) (l : List Section). part x ++ joined_by part l) (ap (section_at s) z)
      (filled_same (λ k. section_at s (i + suc k)) (λ k. section_at s (suc i + k)) blank_section m n (λ j l. same j))
      ∙ ap₂ (λ (x y : List ℕ). x ++ y) (sym (record_own i (omega arith))) (records_from m n (suc i) (omega arith) (omega arith))

  records_are : join_from (record_so_far s) place_count 0 ≡ joined_by part (sections_of s)
  records_are =
      sym (records_from place_count (count_of s) 0 (omega arith) (few_sections s ok))
      ∙ ap (joined_by part) (filled_same (λ k. section_at s (0 + k)) (section_at s) blank_section place_count (count_of s) (λ j l. ap (section_at s) (zero-add j)))

  pub roll_is : roll_so_far s ++ head_of 0 end_type ≡ roll_bytes s
  unfolding roll_so_far roll_bytes roll_for
  roll_is =
      append_assoc (flags_so_far s) (join_from (record_so_far s) place_count 0) (head_of 0 end_type)
      ∙ ap₂ (λ (x y : List ℕ). x ++ (y ++ head_of 0 end_type)) (flags_whole s (passes s ok).head.whole) records_are
      ∙ ap (λ (r : List ℕ). flags_record (header_flags_of s) ++ r) (roll_records (data_of s) (sections_of s))

  pub digest_own : fingerprint_beside Accepted (state_after (roll_so_far s)) ≡ fingerprint_of s
  unfolding fingerprint_beside fingerprint_of
  digest_own =
      let n = length-append (roll_so_far s) (head_of 0 end_type) in
      ap digest_from (after_more (roll_so_far s) (head_of 0 end_type) (omega (arith, length_head 0 end_type, roll_few s)))
      ∙ fresh_finished (roll_so_far s ++ head_of 0 end_type) ∙ ap sha384 roll_is

-- ---- the answer

module _ (s : List ℕ) where
  by_verdict : (v : Verdict) → verdict_of s ≡ v → fingerprint_beside v (state_after (roll_so_far s)) ≡ beside v (fingerprint_of s) no_fingerprint
  by_verdict Accepted ok = digest_own s ok
  by_verdict (Refused r) e = zeros_beside (Refused r) (state_after (roll_so_far s)) r refl

  pub reading_is : (finished_fingerprinting (fingerprinting_state s)).reading ≡ read_image s
  unfolding finished_fingerprinting
  reading_is = answer_of_holds s

  pub digest_is : (finished_fingerprinting (fingerprinting_state s)).digest ≡ (fingerprint_answer s).digest
  unfolding finished_fingerprinting fingerprint_answer
  digest_is =
      ap (λ (v : Verdict). fingerprint_beside v (state_after (roll_so_far s))) (verdict_is s (answer_of (state_of s)) (answer_of_holds s)) ∙ by_verdict (verdict_of s) refl
