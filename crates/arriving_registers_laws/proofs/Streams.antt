-- How what has arrived of a stream grows by a piece whose bytes belong together.
use Prim.Native.Nat.{ℕ, zero, suc, ◌+◌, ◌*◌, ◌<◌, ◌≤◌}
use mathlib.Core.Path.{◌≡◌, refl, sym, ap, ap₂, ◌∙◌}
use mathlib.Core.Bool.{Bool, true, false}
use mathlib.Core.List.{List, [], ◌++◌, append-nil}
use mathlib.Core.Logic.{◌⊎◌, inl, inr, ⊎_elim}
use native.Mathlib.Omega.{arith}
use borrow.Author.Tests.{eq-eqb, ne_eqb}
use lib.Dec.{eqb}
use lib.ListN.{length}
use Rattle.octets.specs.Logic.{choose}
use Rattle.octets.proofs.Logic.{le_or_lt, choose_holds}
use Rattle.eif.specs.Numbers.{place_count, size_limit}
use Rattle.eif.specs.Layout.{header_size, section_header_size, kind_at}
use Rattle.eif.specs.Reading.{ramdisk_in}
use Rattle.eif.specs.Stream.{keeps}
use Rattle.eif.specs.declared.Stream.{Stream}
use Rattle.eif_lemmas.proofs.Table.{join_same}
use Rattle.arriving.specs.State.{state_of}
use Rattle.arriving_sections.specs.Span.{kept_kind, span_of}
use Rattle.arriving_sections.specs.declared.Span.{Span}
use Rattle.arriving_sections_laws.specs.Given.{places_in_order, data_so_far}
use Rattle.arriving_sections_laws.proofs.Order.{packed, packed_le}
use Rattle.arriving_sections_laws.proofs.Growth.{few_ordered, placed, data_none, data_ahead, data_early, span_early, span_in, sections_grow}
use Rattle.arriving_sections_laws.proofs.Joined.{join_more, join_few}
use Rattle.arriving_sections_laws.proofs.Begun.{data_few, HasBegun, begun_before, kind_stays, state_kind}
use Rattle.arriving_registers.specs.Measuring.{ramdisks_at}
use Rattle.arriving_registers_laws.specs.Streams.{measured_so_far, stream_so_far}

-- ---- the ramdisks before a section

pub ramdisks_same : (f g : ℕ → ℕ) (i : ℕ) → ((j : ℕ) → j < i → f j ≡ g j) → ramdisks_at f i ≡ ramdisks_at g i
unfolding ramdisks_at
ramdisks_same f g zero h = refl
ramdisks_same f g (suc i) h = ap₂ (λ (x y : ℕ). x + ramdisk_in y) (ramdisks_same f g i (λ j l. h j (omega arith))) (h i (omega arith))

-- ---- choices of lists

choose_nothing : (b : Bool) → choose {A = List ℕ} b [] [] ≡ []
choose_nothing true = refl
choose_nothing false = refl

choose_more : (b c : Bool) (d p : List ℕ) → choose b (d ++ choose c p []) [] ≡ choose b d [] ++ choose c (choose b p []) []
choose_more true c d p = refl
choose_more false c d p = sym (choose_nothing c)

-- a section of which no data has arrived adds nothing to a stream
pub kept_nothing : (stream : Stream) (s : List ℕ) (i : ℕ) → data_so_far s i ≡ [] → measured_so_far stream s i ≡ []
unfolding measured_so_far
kept_nothing stream s i e =
    let b = keeps stream (kind_at s i) (ramdisks_at (kind_at s) i) in
    ap (λ (d : List ℕ). choose b d []) e ∙ choose_nothing b

pub kept_few : (stream : Stream) (s : List ℕ) (i : ℕ) → length (measured_so_far stream s i) ≤ size_limit
unfolding measured_so_far
kept_few stream s i =
    choose_holds (λ (d : List ℕ). length d ≤ size_limit) (keeps stream (kind_at s i) (ramdisks_at (kind_at s) i)) (data_so_far s i) []
    (λ _. data_few s i) (λ _. omega arith)

pub stream_few : (s : List ℕ) (stream : Stream) → length (stream_so_far s stream) ≤ place_count * size_limit
unfolding stream_so_far
stream_few s stream = join_few (measured_so_far stream s) size_limit (kept_few stream s) place_count 0

-- ---- one more piece of bytes that belong together

module _ (s p : List ℕ) (n : ℕ) (fits : length p ≤ (span_of (state_of s) n).length) where
  abbrev place : ℕ
  place = (span_of (state_of s) n).place

  -- a section has begun, or none of its data has arrived and none is in the piece
  by_place : (i : ℕ) → i < place_count → ((data_so_far s i ≡ []) × (place ≡ i → ⊥)) ⊎ HasBegun s i
  by_place i h =
      ⊎_elim
      (λ (w : header_size ≤ length s).
      let l = span_in s n w in
      ⊎_elim
      (λ (g : places_in_order s ≤ i). inl (data_none s i g, λ e. (let q = l.inside (omega arith) in omega arith)))
      (λ (g : i < places_in_order s).
      ⊎_elim
      (λ (o : packed s i + section_header_size ≤ length s). inr (record { order = g; own = o }))
      (λ (o : length s < packed s i + section_header_size).
      inl (data_ahead s i (omega arith), λ e. (let q = l.inside (omega arith) in let z = ap (packed s) e in omega arith)))
      (le_or_lt (packed s i + section_header_size) (length s)))
      (le_or_lt (places_in_order s) i))
      (λ (w : length s < header_size).
      inl (data_early s i (omega arith), λ e. omega (arith, ap (λ (r : Span). r.place) (span_early s n w))))
      (le_or_lt header_size (length s))

  module _ (stream : Stream) where
    abbrev keep : ℕ → Bool
    keep i = keeps stream (kind_at s i) (ramdisks_at (kind_at s) i)

    kept_grows : (i : ℕ) → i < place_count → measured_so_far stream (s ++ p) i ≡ measured_so_far stream s i ++ choose (eqb place i) (choose (keep i) p []) []
    unfolding measured_so_far
    kept_grows i h =
        ⊎_elim
        (λ q.
        let e : data_so_far (s ++ p) i ≡ [] =
        sections_grow s p n fits i h ∙ ap₂ (λ (x : List ℕ) (b : Bool). x ++ choose b p []) q.0 (ne_eqb _ _ q.1) in
        kept_nothing stream (s ++ p) i e
        ∙ sym (ap₂ (λ (x : List ℕ) (b : Bool). x ++ choose b (choose (keep i) p []) []) (kept_nothing stream s i q.0) (ne_eqb _ _ q.1)))
        (λ k.
        ap₂ (λ (kind ramdisks : ℕ). choose (keeps stream kind ramdisks) (data_so_far (s ++ p) i) [])
        (kind_stays s p i k) (ramdisks_same (kind_at (s ++ p)) (kind_at s) i (λ j l. kind_stays s p j (begun_before s i j (omega arith) k)))
        ∙ ap (λ (d : List ℕ). choose (keep i) d []) (sections_grow s p n fits i h)
        ∙ choose_more (keep i) (eqb place i) (data_so_far s i) p)
        (by_place i h)

    -- the piece adds nothing to another section
    kept_other : (i : ℕ) → (i ≡ place → ⊥) → measured_so_far stream (s ++ p) i ≡ measured_so_far stream s i
    kept_other i other =
        ⊎_elim
        (λ (h : place_count ≤ i).
        kept_nothing stream (s ++ p) i (data_none (s ++ p) i (omega (arith, few_ordered (s ++ p))))
        ∙ sym (kept_nothing stream s i (data_none s i (omega (arith, few_ordered s)))))
        (λ (h : i < place_count).
        kept_grows i h ∙ ap (λ (b : Bool). measured_so_far stream s i ++ choose b (choose (keep i) p []) []) (ne_eqb place i (λ e. other (sym e))) ∙ append-nil (measured_so_far stream s i))
        (le_or_lt place_count i)

    pub stream_same : place_count ≤ place → stream_so_far (s ++ p) stream ≡ stream_so_far s stream
    unfolding stream_so_far
    stream_same h = join_same (measured_so_far stream (s ++ p)) (measured_so_far stream s) place_count 0 (λ j l. kept_other j (λ e. omega arith))

  module _ (in-data : place < place_count) where
    pub whole_header : header_size ≤ length s
    whole_header =
        ⊎_elim
        (λ h. h)
        (λ (h : length s < header_size). absurd (omega (arith, ap (λ (r : Span). r.place) (span_early s n h))))
        (le_or_lt header_size (length s))

    abbrev InData : Type 0
    InData = (place < places_in_order s) × (packed s place + section_header_size ≤ length s) × (length s + (span_of (state_of s) n).length ≤ packed s (suc place))

    inside : InData
    inside = (span_in s n whole_header).inside in-data

    -- no data of a later section has arrived
    pub after_none : (stream : Stream) (i : ℕ) → place < i → measured_so_far stream s i ≡ []
    after_none stream i h =
        let l = inside in
        let q = packed_le s {i = suc place} {j = i} h in
        kept_nothing stream s i (data_ahead s i (omega arith))

    pub stream_more : (stream : Stream) → stream_so_far (s ++ p) stream ≡ stream_so_far s stream ++ choose (keep stream place) p []
    unfolding stream_so_far
    stream_more stream =
        join_more (measured_so_far stream s) (measured_so_far stream (s ++ p)) place (choose (keep stream place) p []) (kept_other stream)
        (kept_grows stream place in-data ∙ ap (λ (b : Bool). measured_so_far stream s place ++ choose b (choose (keep stream place) p []) []) (eq-eqb place place refl))
        (after_none stream) place_count 0 (omega arith) in-data

    -- the section has begun
    pub in_begun : HasBegun s place
    in_begun = let l = inside in record { order = l.0; own = l.1 }

    -- the state contains the types of the section and of those before it
    pub kind_kept : (i : ℕ) → i ≤ place → kept_kind (state_of s).headers i ≡ kind_at s i
    kind_kept i h =
        let l = inside in
        let z = (placed s place l.0).1 in
        state_kind s (omega arith) i (begun_before s place i h in_begun)

    pub ramdisks_kept : ramdisks_at (kept_kind (state_of s).headers) place ≡ ramdisks_at (kind_at s) place
    ramdisks_kept = ramdisks_same (kept_kind (state_of s).headers) (kind_at s) place (λ j l. kind_kept j (omega arith))
