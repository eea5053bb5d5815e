-- The cases of the definitions, as the code distinguishes them: bytes that belong together, a whole piece, the end.
use Prim.Native.Nat.{ℕ, ◌<◌, ◌≤◌, min}
use mathlib.Core.Path.{◌≡◌, ap, ◌∙◌}
use mathlib.Core.Bool.{true, false}
use mathlib.Core.List.{List}
use borrow.Author.Tests.{lt-ltb, le-ltb, eq-eqb, ne_eqb}
use lib.ListN.{length, take}
use Rattle.eif.specs.Numbers.{place_count}
use Rattle.eif.specs.Layout.{header_size, header_flags_of, size_at}
use Rattle.eif.specs.Rules.{boot_type}
use Rattle.eif.specs.Roll.{head_of, flags_record, end_type}
use Rattle.eif.specs.declared.Refusal.{Refusal}
use Rattle.eif.specs.declared.Verdict.{Verdict}
use Rattle.eif.specs.declared.Verdict.TheVariants.{Accepted, Refused}
use Rattle.sha384.specs.State.{digest_from, more_hashed}
use Rattle.sha384.specs.declared.State.{State}
use Rattle.eif_fingerprint.specs.Fingerprint.{no_fingerprint}
use Rattle.arriving.specs.Calls as arriving
use Rattle.arriving.specs.declared.Arriving.{Arriving}
use Rattle.arriving.specs.declared.Fed.{Fed as ArrivingFed}
use Rattle.arriving.specs.declared.Finished.{Finished as Told}
use Rattle.arriving_sections.specs.Span.{span_of, kept_kind}
use Rattle.arriving_sections.specs.declared.Span.{Span}
use Rattle.arriving_fingerprint.specs.Fingerprinting.{record_begun, data_hashed, roll_more, fingerprinting_of, roll_part_taken, roll_taken_all, fed_fingerprinting_with, fed_fingerprinting, fingerprint_beside, finished_fingerprinting}
use Rattle.arriving_fingerprint.specs.declared.Fingerprinting.{Fingerprinting}
use Rattle.arriving_fingerprint.specs.declared.Finished.{Finished}

-- ---- the hash state

module _ (roll : State) (header headers : List ℕ) (i : ℕ) where
  pub begun_past : place_count ≤ i → record_begun roll header headers i ≡ roll
  unfolding record_begun
  begun_past h = simp (le-ltb _ _ h)

  module _ (place : i < place_count) where
    pub begun_boot : boot_type (kept_kind headers i) ≡ true → record_begun roll header headers i ≡ more_hashed roll (head_of (size_at header i) (kept_kind headers i))
    unfolding record_begun
    begun_boot h = simp (lt-ltb _ _ place, h)

    pub begun_other : boot_type (kept_kind headers i) ≡ false → record_begun roll header headers i ≡ roll
    unfolding record_begun
    begun_other h = simp (lt-ltb _ _ place, h)

module _ (roll : State) (headers : List ℕ) (place : ℕ) (bytes : List ℕ) where
  pub data_boot : boot_type (kept_kind headers place) ≡ true → data_hashed roll headers place bytes ≡ more_hashed roll bytes
  unfolding data_hashed
  data_boot h = simp h

  pub data_other : boot_type (kept_kind headers place) ≡ false → data_hashed roll headers place bytes ≡ roll
  unfolding data_hashed
  data_other h = simp h

module _ (roll : State) (header headers : List ℕ) (from to : ℕ) (span : Span) (begun : ℕ) (bytes : List ℕ) where
  abbrev more : State
  more = roll_more roll header headers from to span begun bytes

  module _ (early : from < header_size) where
    pub more_early : to < header_size → more ≡ roll
    unfolding roll_more
    more_early h = simp (lt-ltb _ _ early, lt-ltb _ _ h)

    pub more_flags : header_size ≤ to → more ≡ more_hashed roll (flags_record (header_flags_of header))
    unfolding roll_more
    more_flags h = simp (lt-ltb _ _ early, le-ltb _ _ h)

  module _ (past : header_size ≤ from) where
    pub more_data : span.place < place_count → more ≡ data_hashed roll headers span.place bytes
    unfolding roll_more
    more_data h = simp (le-ltb _ _ past, lt-ltb _ _ h)

    module _ (none : place_count ≤ span.place) where
      pub more_begun : span.begun < begun → more ≡ record_begun roll header headers span.begun
      unfolding roll_more
      more_begun h = simp (le-ltb _ _ past, le-ltb _ _ none, lt-ltb _ _ h)

      pub more_same : begun ≤ span.begun → more ≡ roll
      unfolding roll_more
      more_same h = simp (le-ltb _ _ past, le-ltb _ _ none, le-ltb _ _ h)

-- ---- one part

pub taken_is : (m : Fingerprinting) (span : Span) (bytes : List ℕ) {f : ArrivingFed} {then : Span} {roll : State} → f ≡ arriving.fed m.arriving bytes (length bytes)
    → then ≡ span_of f.state 0
    → roll ≡ roll_more m.roll f.state.header f.state.headers m.arriving.taken f.state.taken span then.begun bytes
    → fingerprinting_of f.state roll ≡ roll_part_taken m span bytes
unfolding roll_part_taken
taken_is m span bytes {f} {then} {roll} e g h =
    ap (fingerprinting_of f.state) (h ∙ ap (λ (r : Span). by f.state r) g) ∙ ap (λ (x : ArrivingFed). fingerprinting_of x.state (by x.state (span_of x.state 0))) e
  where
    by : Arriving → Span → State
    by a r = roll_more m.roll a.header a.headers m.arriving.taken a.taken span r.begun bytes

-- ---- a call

pub fed_open : (m : Fingerprinting) (piece : List ℕ) (allowance : ℕ) → m.arriving.ended ≡ 0
    → fed_fingerprinting m piece allowance ≡ fed_fingerprinting_with (roll_taken_all m (take allowance piece)) (min allowance (length piece))
unfolding fed_fingerprinting
fed_open m piece allowance e = simp (eq-eqb _ _ e)

pub fed_ended : (m : Fingerprinting) (piece : List ℕ) (allowance : ℕ) → (m.arriving.ended ≡ 0 → ⊥) → fed_fingerprinting m piece allowance ≡ fed_fingerprinting_with m 0
unfolding fed_fingerprinting
fed_ended m piece allowance e = simp (ne_eqb _ _ e)

-- ---- the end

module _ (verdict : Verdict) (roll : State) where
  pub zeros_beside : (r : Refusal) → verdict ≡ Refused r → fingerprint_beside verdict roll ≡ no_fingerprint
  unfolding fingerprint_beside
  zeros_beside r e = simp e

  pub digest_beside : verdict ≡ Accepted → fingerprint_beside verdict roll ≡ digest_from (more_hashed roll (head_of 0 end_type))
  unfolding fingerprint_beside
  digest_beside e = simp e

pub finished_is : (m : Fingerprinting) {f : Told} {d : List ℕ} → f ≡ arriving.finished m.arriving → d ≡ fingerprint_beside f.reading.verdict m.roll
    → ◌≡◌ {A = Finished} (record { state = fingerprinting_of f.state m.roll; reading = f.reading; digest = d }) (finished_fingerprinting m)
unfolding finished_fingerprinting arriving.finished
finished_is m {f} {d} e h =
    ap (λ (x : List ℕ). with f x) h ∙ ap (λ (x : Told). with x (fingerprint_beside x.reading.verdict m.roll)) e
  where
    with : Told → List ℕ → Finished
    with f d = record { state = fingerprinting_of f.state m.roll; reading = f.reading; digest = d }
