-- Of an accepted image the whole of each stream has arrived, so the registers of the state are the registers of the image.
use Prim.Native.Nat.{ℕ, zero, suc, ◌+◌, ◌<◌, ◌≤◌}
use mathlib.Core.Path.{◌≡◌, refl, sym, ap, ap₂, ◌∙◌}
use mathlib.Core.Bool.{Bool, true, false}
use mathlib.Core.List.{List, [], ◌∷◌, ◌++◌, map}
use native.Mathlib.Omega.{arith}
use native.Mathlib.Nat.{zero-add}
use Rattle.octets.specs.Lists.{joined_by}
use Rattle.octets.specs.Logic.{choose}
use Rattle.eif.specs.Answers.{beside}
use Rattle.eif.specs.Numbers.{place_count}
use Rattle.eif.specs.Layout.{count_of, kind_at}
use Rattle.eif.specs.Reading.{ramdisk_in, verdict_of, data_of, blank_section, section_at, section_kind, read_image}
use Rattle.eif.specs.Stream.{keeps, kept, stream_of}
use Rattle.eif.specs.Table.{filled, join_from}
use Rattle.eif.specs.declared.Section.{Section}
use Rattle.eif.specs.declared.Stream.{Stream}
use Rattle.eif.specs.declared.Stream.TheVariants.{Whole, Boot, App}
use Rattle.eif.specs.declared.Verdict.{Verdict}
use Rattle.eif.specs.declared.Verdict.TheVariants.{Accepted, Refused}
use Rattle.eif_lemmas.proofs.Reading.{verdict_is}
use Rattle.eif_lemmas.proofs.Table.{filled_same}
use Rattle.eif_lemmas.proofs.Types.{none_kept}
use Rattle.sha384_block.specs.Fips.{sha384}
use Rattle.sha384.specs.State.{digest_from}
use Rattle.sha384_laws.proofs.Fed.{fresh_finished}
use Rattle.eif_registers.specs.Registers.{register_from, register_of, image_registers, no_registers, as_digest, registers_answer}
use Rattle.arriving.specs.State.{state_of}
use Rattle.arriving.specs.Calls.{answer_of}
use Rattle.arriving_laws.proofs.Answer.{answer_of_holds}
use Rattle.arriving_sections_laws.proofs.Accepted.{few_sections, data_own, data_past}
use Rattle.arriving_registers.specs.Measuring.{ramdisks_at, three_digests, finished_measuring}
use Rattle.arriving_registers_laws.specs.Streams.{measured_so_far, stream_so_far, digest_so_far, digests_so_far, measured_of}
use Rattle.arriving_sections_laws.proofs.Joined.{join_none}
use Rattle.arriving_registers_laws.proofs.Streams.{kept_nothing}
use Rattle.arriving_registers_laws.proofs.Growth.{ramdisks_suc}

-- ---- the streams of an accepted image

joined_choose : (f : Section → List ℕ) (b : Bool) (x : Section) (l : List Section) → joined_by f (choose b (x ∷ l) l) ≡ choose b (f x) [] ++ joined_by f l
joined_choose f true x l = refl
joined_choose f false x l = refl

module _ (s : List ℕ) (ok : verdict_of s ≡ Accepted) (stream : Stream) where
  -- one more section
  one_more : (x : Section) (xs ys : List Section) (i : ℕ) → i < count_of s → x ≡ section_at s i → xs ≡ ys
      → joined_by (data_of s) (kept stream section_kind (ramdisks_at (kind_at s) i) (x ∷ xs))
      ≡ measured_so_far stream s i ++ joined_by (data_of s) (kept stream section_kind (ramdisks_at (kind_at s) (suc i)) ys)
  unfolding kept measured_so_far
  one_more x xs ys i h e f =
      let b = keeps stream (kind_at s i) (ramdisks_at (kind_at s) i) in
      let k : List Section → List Section = λ (l : List Section). kept stream section_kind (ramdisks_at (kind_at s) i + ramdisk_in (kind_at s i)) l in
      ap₂ (λ (y : Section) (l : List Section). joined_by (data_of s) (kept stream section_kind (ramdisks_at (kind_at s) i) (y ∷ l))) e f
      ∙ joined_choose (data_of s) b (section_at s i) (k ys)
      ∙ ap₂ (λ (d : List ℕ) (n : ℕ). choose b d [] ++ joined_by (data_of s) (kept stream section_kind n ys)) (sym (data_own s ok i h)) (sym (ramdisks_suc (kind_at s) i))

  stream_from : (m n i : ℕ) → i + n ≡ count_of s → n ≤ m
      → joined_by (data_of s) (kept stream section_kind (ramdisks_at (kind_at s) i) (filled (λ k. section_at s (i + k)) blank_section m n)) ≡ join_from (measured_so_far stream s) m i
  unfolding join_from
  stream_from zero n i e h = ap (joined_by (data_of s)) (none_kept stream (ramdisks_at (kind_at s) i) 0)
  stream_from (suc m) zero i e h =
      ap (joined_by (data_of s)) (none_kept stream (ramdisks_at (kind_at s) i) (suc m))
      ∙ sym (join_none (measured_so_far stream s) (suc m) i (λ j l. kept_nothing stream s j (data_past s ok j (omega arith))))
  stream_from (suc m) (suc n) i e h =
      let z : i + 0 ≡ i = omega arith in
      let same : (k : ℕ) → section_at s (i + suc k) ≡ section_at s (suc i + k) = λ k. (let w : i + suc k ≡ suc i + k = omega arith in ap (section_at s) w) in
      one_more (section_at s (i + 0)) _ (filled (λ k. section_at s (suc i + k)) blank_section m n) i (omega arith) (ap (section_at s) z)
      (filled_same (λ k. section_at s (i + suc k)) (λ k. section_at s (suc i + k)) blank_section m n (λ j l. same j))
      ∙ ap (λ (l : List ℕ). measured_so_far stream s i ++ l) (stream_from m n (suc i) (omega arith) (omega arith))

  pub stream_is : stream_so_far s stream ≡ stream_of s stream
  unfolding stream_so_far stream_of ramdisks_at
  stream_is =
      sym (stream_from place_count (count_of s) 0 (omega arith) (few_sections s ok))
      ∙ ap (λ (l : List Section). joined_by (data_of s) (kept stream section_kind 0 l))
      (filled_same (λ k. section_at s (0 + k)) (section_at s) blank_section place_count (count_of s) (λ j l. ap (section_at s) (zero-add j)))

  pub register_is : register_from (digest_from (digest_so_far s stream)) ≡ register_of s stream
  unfolding register_of
  register_is = ap register_from (fresh_finished (stream_so_far s stream) ∙ ap sha384 stream_is)

-- ---- the answer

module _ (s : List ℕ) where
  digests_are : (v : Verdict) → verdict_of s ≡ v → three_digests v (digests_so_far s) ≡ map as_digest (beside v (image_registers s) no_registers)
  unfolding three_digests digests_so_far image_registers
  digests_are Accepted ok =
      λ u. as_digest (register_is s ok Whole u) ∷ as_digest (register_is s ok Boot u) ∷ as_digest (register_is s ok App u) ∷ []
  digests_are (Refused r) e = refl

  pub reading_is : (finished_measuring (measured_of s)).reading ≡ read_image s
  unfolding finished_measuring
  reading_is = answer_of_holds s

  pub registers_are : (finished_measuring (measured_of s)).registers ≡ (registers_answer s).registers
  unfolding finished_measuring registers_answer
  registers_are =
      ap (λ (v : Verdict). three_digests v (digests_so_far s)) (verdict_is s (answer_of (state_of s)) (answer_of_holds s)) ∙ digests_are (verdict_of s) refl
