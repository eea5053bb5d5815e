-- The cases of the definitions, as the code distinguishes them: data of a section, one part of a piece, a whole piece, the end.
use Prim.Native.Nat.{ℕ, ◌+◌, ◌<◌, ◌≤◌, min}
use mathlib.Core.Path.{◌≡◌, refl, sym, ap, ap₂, ◌∙◌}
use mathlib.Core.Bool.{true, false}
use mathlib.Core.List.{List, [], ◌∷◌, map}
use native.Mathlib.Numerals.{add-one}
use borrow.Author.Tests.{lt-ltb, le-ltb, eq-eqb, ne_eqb}
use lib.ListN.{length, take}
use Rattle.eif.specs.Numbers.{place_count}
use Rattle.eif.specs.Reading.{ramdisk_in}
use Rattle.eif.specs.Rules.{boot_type}
use Rattle.eif.specs.Stream.{later_ramdisk}
use Rattle.eif.specs.declared.Refusal.{Refusal}
use Rattle.eif.specs.declared.Verdict.{Verdict}
use Rattle.eif.specs.declared.Verdict.TheVariants.{Accepted, Refused}
use Rattle.sha384.specs.State.{more_hashed, digest_from}
use Rattle.eif_registers.specs.Registers.{register_from, no_registers, as_digest}
use Rattle.eif_registers.specs.declared.Digest.{Digest}
use Rattle.arriving.specs.Calls as arriving
use Rattle.arriving.specs.declared.Fed.{Fed as ArrivingFed}
use Rattle.arriving.specs.Calls.{answer_of, told_end}
use Rattle.eif.specs.declared.Reading.{Reading}
use Rattle.arriving_sections.specs.Span.{kept_kind}
use Rattle.arriving_registers.specs.Measuring.{ramdisks_at, streams_of, streams_after, measuring_of, part_taken, taken_all, fed_measuring_with, fed_measuring, three_digests, finished_measuring}
use Rattle.arriving_registers.specs.declared.Streams.{Streams}
use Rattle.arriving_registers.specs.declared.Measuring.{Measuring}
use Rattle.arriving_registers.specs.declared.Finished.{Finished}

-- ---- the ramdisks before a section

pub ramdisks_next : (kinds : ℕ → ℕ) (i : ℕ) → ramdisks_at kinds (i + 1) ≡ ramdisks_at kinds i + ramdisk_in (kinds i)
unfolding ramdisks_at
ramdisks_next kinds i = rw add-one refl

-- ---- the hash states

module _ (d : Streams) (kind ramdisks : ℕ) (bytes : List ℕ) where
  pub hashed_none : boot_type kind ≡ false → streams_after d kind ramdisks bytes ≡ d
  unfolding streams_after
  hashed_none h = simp h

  module _ (boots : boot_type kind ≡ true) where
    pub hashed_later : later_ramdisk kind ramdisks ≡ true → streams_after d kind ramdisks bytes ≡ streams_of (more_hashed d.whole bytes) d.boot (more_hashed d.app bytes)
    unfolding streams_after
    hashed_later h = simp (boots, h)

    module _ (first : later_ramdisk kind ramdisks ≡ false) where
      pub hashed_once : ramdisks < 2 → streams_after d kind ramdisks bytes ≡ streams_of (more_hashed d.whole bytes) (more_hashed d.whole bytes) d.app
      unfolding streams_after
      hashed_once h = simp (boots, first, lt-ltb _ _ h)

      pub hashed_twice : 2 ≤ ramdisks → streams_after d kind ramdisks bytes ≡ streams_of (more_hashed d.whole bytes) (more_hashed d.boot bytes) d.app
      unfolding streams_after
      hashed_twice h = simp (boots, first, le-ltb _ _ h)

-- ---- one part

module _ (m : Measuring) (place : ℕ) (bytes : List ℕ) where
  pub part_none : place_count ≤ place → part_taken m place bytes ≡ measuring_of (arriving.fed m.arriving bytes (length bytes)).state m.streams
  unfolding part_taken
  part_none h = simp (le-ltb _ _ h)

  pub part_data : place < place_count → part_taken m place bytes
      ≡ measuring_of (arriving.fed m.arriving bytes (length bytes)).state
      (streams_after m.streams (kept_kind m.arriving.headers place) (ramdisks_at (kept_kind m.arriving.headers) place) bytes)
  unfolding part_taken
  part_data h = simp (lt-ltb _ _ h)

  pub taken_none : place_count ≤ place → {f : ArrivingFed} → f ≡ arriving.fed m.arriving bytes (length bytes) → measuring_of f.state m.streams ≡ part_taken m place bytes
  taken_none h e = ap (λ (f : ArrivingFed). measuring_of f.state m.streams) e ∙ sym (part_none h)

  pub taken_data : place < place_count → {f : ArrivingFed} → f ≡ arriving.fed m.arriving bytes (length bytes) → {k r : ℕ} → k ≡ kept_kind m.arriving.headers place
      → r ≡ ramdisks_at (kept_kind m.arriving.headers) place → {d : Streams} → d ≡ streams_after m.streams k r bytes → measuring_of f.state d ≡ part_taken m place bytes
  taken_data h e p q g =
      ap₂ (λ (f : ArrivingFed) (d : Streams). measuring_of f.state d) e (g ∙ ap₂ (λ (k r : ℕ). streams_after m.streams k r bytes) p q) ∙ sym (part_data h)

-- ---- a call

pub fed_open : (m : Measuring) (piece : List ℕ) (allowance : ℕ) → m.arriving.ended ≡ 0
    → fed_measuring m piece allowance ≡ fed_measuring_with (taken_all m (take allowance piece)) (min allowance (length piece))
unfolding fed_measuring
fed_open m piece allowance e = simp (eq-eqb _ _ e)

pub fed_ended : (m : Measuring) (piece : List ℕ) (allowance : ℕ) → (m.arriving.ended ≡ 0 → ⊥) → fed_measuring m piece allowance ≡ fed_measuring_with m 0
unfolding fed_measuring
fed_ended m piece allowance e = simp (ne_eqb _ _ e)

-- ---- the end

-- equal registers give equal answers
one_each : {a b c x y z : List ℕ} → a ≡ x → b ≡ y → c ≡ z → as_digest a ∷ as_digest b ∷ as_digest c ∷ [] ≡ as_digest x ∷ as_digest y ∷ as_digest z ∷ []
one_each p q r = λ u. as_digest (p u) ∷ as_digest (q u) ∷ as_digest (r u) ∷ []

module _ (verdict : Verdict) (d : Streams) where
  pub zeros_beside : (r : Refusal) → verdict ≡ Refused r → three_digests verdict d ≡ map as_digest no_registers
  unfolding three_digests
  zeros_beside r e = simp e

  pub registers_beside_holds : verdict ≡ Accepted → {a b c : List ℕ} → a ≡ register_from (digest_from d.whole) → b ≡ register_from (digest_from d.boot)
      → c ≡ register_from (digest_from d.app) → as_digest a ∷ as_digest b ∷ as_digest c ∷ [] ≡ three_digests verdict d
  unfolding three_digests
  registers_beside_holds e p q r = simp e (one_each p q r)

pub finished_is : (m : Measuring) {r : Reading} {l : List Digest} → r ≡ answer_of m.arriving → l ≡ three_digests r.verdict m.streams
    → ◌≡◌ {A = Finished} (record { state = measuring_of (told_end m.arriving) m.streams; reading = r; registers = l }) (finished_measuring m)
unfolding finished_measuring
finished_is m {r} {l} e h =
    ap (λ (x : List Digest). with r x) h ∙ ap (λ (x : Reading). with x (three_digests x.verdict m.streams)) e
  where
    with : Reading → List Digest → Finished
    with r l = record { state = measuring_of (told_end m.arriving) m.streams; reading = r; registers = l }
