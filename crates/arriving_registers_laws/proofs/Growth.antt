-- One more piece takes the defined state of some bytes to the defined state of those bytes and the piece.
use Prim.Native.Nat.{ℕ, zero, suc, ◌+◌, ◌-◌, ◌<◌, ◌≤◌, min}
use mathlib.Core.Path.{◌≡◌, refl, sym, ap, ap₂, ◌∙◌}
use mathlib.Core.Bool.{Bool, true, false, not}
use mathlib.Core.List.{List, [], ◌++◌, append-nil}
use mathlib.Core.Logic.{⊎_elim}
use native.Mathlib.Omega.{arith}
use borrow.Author.Tests.{le-ltb, eq-eqb, ne_eqb}
use lib.ListN.{length, take}
use lib.Seq.{take-length}
use Rattle.octets.specs.Logic.{both, choose}
use Rattle.octets.proofs.Logic.{equal_or_not, le_or_lt, true_or_false, both_none}
use Rattle.eif.specs.Numbers.{place_count, ramdisk}
use Rattle.eif.specs.Layout.{kind_at}
use Rattle.eif.specs.Reading.{ramdisk_in}
use Rattle.eif.specs.Rules.{boot_type}
use Rattle.eif.specs.Stream.{later_ramdisk, keeps}
use Rattle.eif.specs.declared.Stream.{Stream}
use Rattle.eif.specs.declared.Stream.TheVariants.{Whole, Boot, App}
use Rattle.eif_lemmas.proofs.Table.{join_same}
use Rattle.eif_lemmas.proofs.Types.{not_kept}
use Rattle.sha384.specs.State.{more_hashed, state_after}
use Rattle.sha384.specs.declared.State.{State}
use Rattle.sha384_laws.proofs.Pieces.{after_more}
use Rattle.arriving.specs.State.{state_of}
use Rattle.arriving.specs.Calls as arriving
use Rattle.arriving.specs.declared.Fed.{Fed as ArrivingFed}
use Rattle.arriving_laws.proofs.Growth.{open_of}
use Rattle.arriving_laws.proofs.Runs.{fed_state}
use Rattle.arriving_sections.specs.Span.{span_of}
use Rattle.arriving_sections.specs.declared.Span.{Span}
use Rattle.arriving_sections_laws.specs.Given.{data_so_far}
use Rattle.arriving_sections_laws.proofs.Parts.{parts_grow}
use Rattle.arriving_registers.specs.Measuring.{ramdisks_at, streams_of, streams_after, measuring_of, part_taken, taken_all, fed_measuring_with, fed_measuring}
use Rattle.arriving_registers.specs.declared.Measuring.{Measuring}
use Rattle.arriving_registers.proofs.Steps.{hashed_none, hashed_later, hashed_once, hashed_twice, part_none, part_data, fed_open}
use Rattle.arriving_registers_laws.specs.Streams.{measured_so_far, stream_so_far, digest_so_far, digests_so_far, measured_of}
use Rattle.arriving_registers_laws.proofs.Streams.{stream_same, stream_more, stream_few, after_none, kind_kept, ramdisks_kept}

-- ---- three digests

three_same : {a b c x y z : State} → a ≡ x → b ≡ y → c ≡ z → streams_of a b c ≡ streams_of x y z
three_same p q r = λ u. streams_of (p u) (q u) (r u)

-- ---- Whole and Boot are equal before the second ramdisk

pub ramdisks_suc : (f : ℕ → ℕ) (i : ℕ) → ramdisks_at f (suc i) ≡ ramdisks_at f i + ramdisk_in (f i)
unfolding ramdisks_at
ramdisks_suc f i = refl

ramdisks_more : (f : ℕ → ℕ) (i k : ℕ) → ramdisks_at f i ≤ ramdisks_at f (i + k)
ramdisks_more f i zero =
    let z : i + 0 ≡ i = omega arith in
    let e : ramdisks_at f (i + 0) ≡ ramdisks_at f i = ap (ramdisks_at f) z in
    omega arith
ramdisks_more f i (suc k) =
    let h = ramdisks_more f i k in
    let z : i + suc k ≡ suc (i + k) = omega arith in
    let e : ramdisks_at f (i + suc k) ≡ ramdisks_at f (suc (i + k)) = ap (ramdisks_at f) z in
    omega (arith, ramdisks_suc f (i + k))

-- if fewer than two ramdisks come before place k, no section before k is a later ramdisk
first_before : (f : ℕ → ℕ) (i k : ℕ) → i < k → ramdisks_at f k < 2 → later_ramdisk (f i) (ramdisks_at f i) ≡ false
first_before f i k h l =
    let m = ramdisks_more f (suc i) (k - suc i) in
    let z : suc i + (k - suc i) ≡ k = omega arith in
    let e : ramdisks_at f (suc i + (k - suc i)) ≡ ramdisks_at f k = ap (ramdisks_at f) z in
    ⊎_elim
    (λ (q : f i ≡ ramdisk).
    let w : ramdisk_in (f i) ≡ 1 = simp (eq-eqb _ _ q) in
    let o : ramdisks_at f i ≤ 0 = omega (arith, ramdisks_suc f i) in
    simp (le-ltb 0 (ramdisks_at f i) o, both_none))
    (λ (q : f i ≡ ramdisk → ⊥). simp (ne_eqb _ _ q))
    (equal_or_not (f i) ramdisk)

same_kept : (kind ramdisks : ℕ) → later_ramdisk kind ramdisks ≡ false → keeps Boot kind ramdisks ≡ keeps Whole kind ramdisks
unfolding keeps
same_kept kind ramdisks h = ap (λ (b : Bool). both (boot_type kind) (not b)) h ∙ both_true_right (boot_type kind)
  where
    both_true_right : (b : Bool) → both b true ≡ b
    both_true_right true = refl
    both_true_right false = refl

-- ---- one more piece of bytes that belong together

module _ (s p : List ℕ) (n : ℕ) (fits : length p ≤ (span_of (state_of s) n).length) where
  abbrev at : ℕ
  at = (span_of (state_of s) n).place

  abbrev kind : ℕ
  kind = kind_at s at

  abbrev ramdisks : ℕ
  ramdisks = ramdisks_at (kind_at s) at

  module _ (in-data : at < place_count) where
    more : (stream : Stream) → keeps stream kind ramdisks ≡ true → stream_so_far (s ++ p) stream ≡ stream_so_far s stream ++ p
    more stream e = stream_more s p n fits in-data stream ∙ ap (λ (b : Bool). stream_so_far s stream ++ choose b p []) e

    digest_more : (stream : Stream) → keeps stream kind ramdisks ≡ true → more_hashed (digest_so_far s stream) p ≡ digest_so_far (s ++ p) stream
    digest_more stream e =
        let m = more stream e in
        let l = stream_few (s ++ p) stream in
        after_more (stream_so_far s stream) p (omega (arith, ap length m)) ∙ ap state_after (sym m)

    digest_same : (stream : Stream) → keeps stream kind ramdisks ≡ false → digest_so_far s stream ≡ digest_so_far (s ++ p) stream
    digest_same stream e =
        ap state_after
        (sym (stream_more s p n fits in-data stream ∙ ap (λ (b : Bool). stream_so_far s stream ++ choose b p []) e ∙ append-nil (stream_so_far s stream)))

    module _ (first : later_ramdisk kind ramdisks ≡ false) (few : ramdisks < 2) where
      kept_both : (i : ℕ) → measured_so_far Boot s i ≡ measured_so_far Whole s i
      unfolding measured_so_far
      kept_both i =
          ⊎_elim
          (λ (h : i ≤ at).
          let e : later_ramdisk (kind_at s i) (ramdisks_at (kind_at s) i) ≡ false =
          ⊎_elim
          (λ (q : i ≡ at). ap (λ (j : ℕ). later_ramdisk (kind_at s j) (ramdisks_at (kind_at s) j)) q ∙ first)
          (λ (q : i ≡ at → ⊥). first_before (kind_at s) i at (omega arith) few)
          (equal_or_not i at) in
          ap (λ (b : Bool). choose b (data_so_far s i) []) (same_kept (kind_at s i) (ramdisks_at (kind_at s) i) e))
          (λ (h : at < i). after_none s p n fits in-data Boot i h ∙ sym (after_none s p n fits in-data Whole i h))
          (le_or_lt i at)

      both_same : stream_so_far s Boot ≡ stream_so_far s Whole
      unfolding stream_so_far
      both_same = join_same (measured_so_far Boot s) (measured_so_far Whole s) place_count 0 (λ j l. kept_both j)

    hash_grows : streams_after (digests_so_far s) kind ramdisks p ≡ digests_so_far (s ++ p)
    unfolding digests_so_far keeps
    hash_grows =
        ⊎_elim
        (λ (b : boot_type kind ≡ true).
        ⊎_elim
        (λ (l : later_ramdisk kind ramdisks ≡ true).
        hashed_later (digests_so_far s) kind ramdisks p b l
        ∙ three_same (digest_more Whole b) (digest_same Boot (ap₂ (λ (x y : Bool). both x (not y)) b l)) (digest_more App l))
        (λ (l : later_ramdisk kind ramdisks ≡ false).
        let both-kept : keeps Boot kind ramdisks ≡ true = ap₂ (λ (x y : Bool). both x (not y)) b l in
        ⊎_elim
        (λ (f : 2 ≤ ramdisks).
        hashed_twice (digests_so_far s) kind ramdisks p b l f ∙ three_same (digest_more Whole b) (digest_more Boot both-kept) (digest_same App l))
        (λ (f : ramdisks < 2).
        hashed_once (digests_so_far s) kind ramdisks p b l f
        ∙ three_same (digest_more Whole b) (ap (λ (x : List ℕ). more_hashed (state_after x) p) (sym (both_same l f)) ∙ digest_more Boot both-kept) (digest_same App l))
        (le_or_lt 2 ramdisks))
        (true_or_false (later_ramdisk kind ramdisks)))
        (λ (b : boot_type kind ≡ false).
        hashed_none (digests_so_far s) kind ramdisks p b
        ∙ three_same (digest_same Whole (not_kept Whole kind ramdisks b)) (digest_same Boot (not_kept Boot kind ramdisks b)) (digest_same App (not_kept App kind ramdisks b)))
        (true_or_false (boot_type kind))

  next_state : (arriving.fed (state_of s) p (length p)).state ≡ state_of (s ++ p)
  next_state = ap (λ (f : ArrivingFed). f.state) (fed_state s p (length p)) ∙ ap (λ (l : List ℕ). state_of (s ++ l)) (take-length p)

  pub part_grows : part_taken (measured_of s) at p ≡ measured_of (s ++ p)
  unfolding digests_so_far
  part_grows =
      ⊎_elim
      (λ (h : place_count ≤ at).
      part_none (measured_of s) at p h
      ∙ ap₂ measuring_of next_state
      (three_same (ap state_after (sym (stream_same s p n fits Whole h))) (ap state_after (sym (stream_same s p n fits Boot h))) (ap state_after (sym (stream_same s p n fits App h)))))
      (λ (h : at < place_count).
      part_data (measured_of s) at p h
      ∙ ap₂ measuring_of next_state
      (ap₂ (λ (k r : ℕ). streams_after (digests_so_far s) k r p) (kind_kept s p n fits h at (omega arith)) (ramdisks_kept s p n fits h) ∙ hash_grows h))
      (le_or_lt place_count at)

-- ---- one more piece, part by part

pub measured_grows : (s piece : List ℕ) → taken_all (measured_of s) piece ≡ measured_of (s ++ piece)
measured_grows s piece =
    parts_grow (λ (x : Measuring). x.arriving) (λ (x : Measuring) (span : Span) (bytes : List ℕ). part_taken x span.place bytes) measured_of (λ l. refl) part_grows s piece

pub fed_measured : (s piece : List ℕ) (allowance : ℕ) → fed_measuring (measured_of s) piece allowance ≡ fed_measuring_with (measured_of (s ++ take allowance piece)) (min allowance (length piece))
fed_measured s piece allowance =
    fed_open (measured_of s) piece allowance (open_of s) ∙ ap (λ (m : Measuring). fed_measuring_with m (min allowance (length piece))) (measured_grows s (take allowance piece))
