-- One more piece takes the defined state of some bytes to the defined state of those bytes and the piece.
use Prim.Native.Nat.{ℕ, suc, ◌+◌, ◌<◌, ◌≤◌, min}
use mathlib.Core.Path.{◌≡◌, refl, sym, ap, ap₂, ◌∙◌}
use mathlib.Core.Bool.{Bool, true, false}
use mathlib.Core.List.{List, [], ◌++◌, append_assoc, append-nil}
use mathlib.Core.Logic.{◌⊎◌, inl, inr, ⊎_elim}
use native.Mathlib.Omega.{arith}
use borrow.Author.Tests.{lt-ltb, le-ltb, le-leb, lt-leb, eq-eqb, ne_eqb}
use lib.Dec.{eqb, leb}
use lib.ListN.{length, take, length-take, length-append}
use lib.Seq.{take-length, take-append-le}
use Rattle.octets.specs.Logic.{choose}
use Rattle.octets.proofs.Logic.{le_or_lt, both_none, choose_holds}
use Rattle.eif.specs.Numbers.{place_count, size_limit}
use Rattle.eif.specs.Layout.{header_size, section_header_size, header_flags_at, header_flags_of, offset_at, size_at, kind_at}
use Rattle.eif.specs.Rules.{boot_type}
use Rattle.eif.specs.Roll.{record_head_size, flags_record_size, head_of, flags_record}
use Rattle.eif.specs.Table.{join_from}
use Rattle.eif_lemmas.proofs.Head.{length_head}
use Rattle.eif_lemmas.proofs.Flags.{length_flags}
use Rattle.eif_lemmas.proofs.Table.{join_same}
use Rattle.eif_judge.proofs.Kept.{field_part}
use Rattle.sha384.specs.State.{state_after, total_limit, more_hashed}
use Rattle.sha384.specs.declared.State.{State}
use Rattle.arriving.specs.State.{count_limit, state_of}
use Rattle.arriving.specs.Calls as arriving
use Rattle.arriving.specs.declared.Arriving.{Arriving}
use Rattle.arriving.specs.declared.Fed.{Fed as ArrivingFed}
use Rattle.arriving_laws.proofs.Growth.{taken_of_holds, open_of}
use Rattle.arriving_laws.proofs.Runs.{fed_state}
use Rattle.arriving_sections.specs.Span.{span_of, kept_kind}
use Rattle.arriving_sections.specs.declared.Span.{Span}
use Rattle.arriving_sections_laws.specs.Given.{places_in_order, data_so_far}
use Rattle.arriving_sections_laws.proofs.Order.{packed, packed_suc, packed_first, packed_le, SpanLies}
use Rattle.arriving_sections_laws.proofs.Heads.{ordered_same, packed_same, size_same}
use Rattle.arriving_sections_laws.proofs.Growth.{few_ordered, placed, data_ahead, span_early, span_in, sections_grow, heads}
use Rattle.arriving_sections_laws.proofs.Parts.{parts_grow}
use Rattle.arriving_sections_laws.proofs.Joined.{join_none, join_more, join_few}
use Rattle.arriving_sections_laws.proofs.Begun.{data_few, HasBegun, begun_place, kind_stays, state_kind}
use Rattle.sha384_laws.proofs.Pieces.{after_more}
use Rattle.arriving_fingerprint.specs.Fingerprinting.{record_begun, data_hashed, roll_more, fingerprinting_of, roll_part_taken, roll_taken_all, fed_fingerprinting_with, fed_fingerprinting}
use Rattle.arriving_fingerprint.specs.declared.Fingerprinting.{Fingerprinting}
use Rattle.arriving_fingerprint.proofs.Steps.{more_early, more_flags, more_data, more_begun, more_same, fed_open}
use Rattle.arriving_fingerprint_laws.specs.Roll.{own_header_arrived, record_so_far, flags_so_far, roll_so_far, fingerprinting_state}

-- ---- the record of a section

module _ (s : List ℕ) (i : ℕ) where
  pub begun_or_not : HasBegun s i ⊎ (HasBegun s i → ⊥)
  begun_or_not =
      ⊎_elim
      (λ (g : places_in_order s ≤ i). inr (λ k. omega (arith, k.order)))
      (λ (g : i < places_in_order s).
      ⊎_elim
      (λ (o : packed s i + section_header_size ≤ length s). inl (record { order = g; own = o }))
      (λ (o : length s < packed s i + section_header_size). inr (λ k. omega (arith, k.own)))
      (le_or_lt (packed s i + section_header_size) (length s)))
      (le_or_lt (places_in_order s) i)

  abbrev begun_record : List ℕ
  begun_record = choose (boot_type (kind_at s i)) (head_of (size_at s i) (kind_at s i) ++ data_so_far s i) []

  pub record_in : HasBegun s i → record_so_far s i ≡ begun_record
  unfolding record_so_far
  record_in k =
      let e = (placed s i k.order).0 in
      let o : offset_at s i + section_header_size ≤ length s = omega (arith, k.own) in
      simp (lt-ltb _ _ k.order, le-leb _ _ o)

  pub record_out : (HasBegun s i → ⊥) → record_so_far s i ≡ []
  unfolding record_so_far
  record_out none =
      ⊎_elim
      (λ (g : places_in_order s ≤ i). simp (le-ltb _ _ g))
      (λ (g : i < places_in_order s).
      ⊎_elim
      (λ (o : packed s i + section_header_size ≤ length s). absurd (none (record { order = g; own = o })))
      (λ (o : length s < packed s i + section_header_size).
      let e = (placed s i g).0 in
      let l : length s < offset_at s i + section_header_size = omega arith in
      simp (lt-leb _ _ l, both_none))
      (le_or_lt (packed s i + section_header_size) (length s)))
      (le_or_lt (places_in_order s) i)

  record_few : length (record_so_far s i) ≤ record_head_size + size_limit
  unfolding record_so_far
  record_few =
      choose_holds Few (own_header_arrived s i) begun_record []
      (λ _. choose_holds Few (boot_type (kind_at s i)) (head_of (size_at s i) (kind_at s i) ++ data_so_far s i) [] (λ _. begun) (λ _. omega arith))
      (λ _. omega arith)
    where
      Few : List ℕ → Type 0
      Few l = length l ≤ record_head_size + size_limit

      begun : Few (head_of (size_at s i) (kind_at s i) ++ data_so_far s i)
      begun = omega (arith, length-append (head_of (size_at s i) (kind_at s i)) (data_so_far s i), length_head (size_at s i) (kind_at s i), data_few s i)

-- ---- the roll is short enough for a digest

flags_few : (s : List ℕ) → length (flags_so_far s) ≤ flags_record_size
unfolding flags_so_far
flags_few s =
    choose_holds (λ (l : List ℕ). length l ≤ flags_record_size) (leb header_size (length s)) (flags_record (header_flags_of s)) []
    (λ _. omega (arith, length_flags (header_flags_of s))) (λ _. omega arith)

pub roll_few : (s : List ℕ) → length (roll_so_far s) + record_head_size ≤ total_limit
unfolding roll_so_far
roll_few s =
    let j = join_few (record_so_far s) (record_head_size + size_limit) (record_few s) place_count 0 in
    omega (arith, length-append (flags_so_far s) (join_from (record_so_far s) place_count 0), flags_few s)

-- the hash state after bytes that a test lets through
choose_hashed : (b : Bool) (x q y : List ℕ) → y ≡ x ++ choose b q [] → length y ≤ total_limit → choose b (more_hashed (state_after x) q) (state_after x) ≡ state_after y
choose_hashed true x q y e h = after_more x q (omega (arith, ap length e)) ∙ ap state_after (sym e)
choose_hashed false x q y e h = ap state_after (sym (e ∙ append-nil x))

choose_joined : (b : Bool) (h d p : List ℕ) → choose b (h ++ (d ++ p)) [] ≡ choose b (h ++ d) [] ++ choose b p []
choose_joined true h d p = sym (append_assoc h d p)
choose_joined false h d p = refl

-- ---- the state of bytes

taken_is : (s : List ℕ) → (state_of s).taken ≡ min count_limit (length s)
taken_is s = taken_of_holds s ∙ length-take count_limit s

-- no section has begun before the file's header is whole
none_early : (s : List ℕ) → length s ≤ header_size → (i : ℕ) → record_so_far s i ≡ []
none_early s h i =
    record_out s i (λ k. (let f = packed_le s {i = 0} {j = i} (omega arith) in omega (arith, packed_first s, k.own)))

pub roll_early : (s : List ℕ) → length s ≤ header_size → roll_so_far s ≡ flags_so_far s
unfolding roll_so_far
roll_early s h = ap (λ (l : List ℕ). flags_so_far s ++ l) (join_none (record_so_far s) place_count 0 (λ j l. none_early s h j)) ∙ append-nil (flags_so_far s)

pub flags_none : (s : List ℕ) → length s < header_size → flags_so_far s ≡ []
unfolding flags_so_far
flags_none s h = simp (lt-leb _ _ h)

pub flags_whole : (s : List ℕ) → header_size ≤ length s → flags_so_far s ≡ flags_record (header_flags_of s)
unfolding flags_so_far
flags_whole s h = simp (le-leb _ _ h)

same_flags : (a b : List ℕ) → take header_size a ≡ take header_size b → header_flags_of a ≡ header_flags_of b
same_flags a b e = field_part 2 header_flags_at header_size a b (omega arith) e

-- ---- one more piece of bytes that belong together

module _ (s p : List ℕ) (n : ℕ) (fits : length p ≤ (span_of (state_of s) n).length) where
  abbrev span : Span
  span = span_of (state_of s) n

  abbrev next : Arriving
  next = state_of (s ++ p)

  abbrev longer : length (s ++ p) ≡ length s + length p
  longer = length-append s p

  -- the piece is of the file's header
  module _ (early : length s < header_size) where
    few : length (s ++ p) ≤ header_size
    few = let e = ap (λ (r : Span). r.length) (span_early s n early) in omega (arith, longer)

    start_none : roll_so_far s ≡ []
    start_none = roll_early s (omega arith) ∙ flags_none s early

    header_grows : roll_more (state_after (roll_so_far s)) next.header next.headers (state_of s).taken next.taken span (span_of next 0).begun p ≡ state_after (roll_so_far (s ++ p))
    header_grows =
        let t = taken_is s in
        let u = taken_is (s ++ p) in
        ⊎_elim
        (λ (w : header_size ≤ length (s ++ p)).
        let f = same_flags next.header (s ++ p) (heads (s ++ p) 0 w) in
        let y : roll_so_far (s ++ p) ≡ roll_so_far s ++ flags_record (header_flags_of (s ++ p)) =
        roll_early (s ++ p) few ∙ flags_whole (s ++ p) w ∙ sym (ap (λ (x : List ℕ). x ++ flags_record (header_flags_of (s ++ p))) start_none) in
        more_flags (state_after (roll_so_far s)) next.header next.headers (state_of s).taken next.taken span (span_of next 0).begun p (omega arith) (omega arith)
        ∙ ap (λ (k : ℕ). more_hashed (state_after (roll_so_far s)) (flags_record k)) f
        ∙ choose_hashed true (roll_so_far s) (flags_record (header_flags_of (s ++ p))) (roll_so_far (s ++ p)) y (omega (arith, roll_few (s ++ p))))
        (λ (w : length (s ++ p) < header_size).
        more_early (state_after (roll_so_far s)) next.header next.headers (state_of s).taken next.taken span (span_of next 0).begun p (omega arith) (omega arith)
        ∙ ap state_after (start_none ∙ sym (roll_early (s ++ p) few ∙ flags_none (s ++ p) w)))
        (le_or_lt header_size (length (s ++ p)))

  -- the piece is after the file's header
  module _ (whole : header_size ≤ length s) where
    same_head : take header_size (s ++ p) ≡ take header_size s
    same_head = take-append-le header_size s p whole

    order_same : places_in_order (s ++ p) ≡ places_in_order s
    order_same = ordered_same (s ++ p) s same_head

    packed_is : (i : ℕ) → i ≤ place_count → packed (s ++ p) i ≡ packed s i
    packed_is i h = packed_same (s ++ p) s same_head i h

    -- a section that has begun stays so
    begun_on : (i : ℕ) → HasBegun s i → HasBegun (s ++ p) i
    begun_on i k =
        let c = begun_place s i k in
        record { order = omega (arith, order_same, k.order); own = omega (arith, packed_is i (omega arith), k.own, longer) }

    -- a section that begins with the piece
    begins_now : (i : ℕ) → HasBegun (s ++ p) i → (HasBegun s i → ⊥) → (i < places_in_order s) × (length s < packed s i + section_header_size) × (packed s i + section_header_size ≤ length s + length p)
    begins_now i k none =
        let o : i < places_in_order s = omega (arith, order_same, k.order) in
        let c = few_ordered s in
        let own = k.own in
        let e = packed_is i (omega arith) in (
          o,
          ⊎_elim (λ (l : packed s i + section_header_size ≤ length s). absurd (none (record { order = o; own = l }))) (λ l. l) (le_or_lt (packed s i + section_header_size) (length s)),
          omega (arith, longer),
        )

    abbrev boots : ℕ → Bool
    boots i = boot_type (kind_at s i)

    record_grown : (i : ℕ) → HasBegun s i
        → record_so_far (s ++ p) i ≡ choose (boot_type (kind_at s i)) (head_of (size_at s i) (kind_at s i) ++ (data_so_far s i ++ choose (eqb span.place i) p [])) []
    record_grown i k =
        let c = begun_place s i k in
        record_in (s ++ p) i (begun_on i k)
        ∙ ap₂ (λ (j m : ℕ). choose (boot_type j) (head_of m j ++ data_so_far (s ++ p) i) []) (kind_stays s p i k) (size_same (s ++ p) s same_head i c)
        ∙ ap (λ (d : List ℕ). choose (boot_type (kind_at s i)) (head_of (size_at s i) (kind_at s i) ++ d) []) (sections_grow s p n fits i c)

    stays : (i : ℕ) → HasBegun s i → (span.place ≡ i → ⊥) → record_so_far (s ++ p) i ≡ record_so_far s i
    stays i k other =
        record_grown i k
        ∙ ap (λ (b : Bool). choose (boot_type (kind_at s i)) (head_of (size_at s i) (kind_at s i) ++ (data_so_far s i ++ choose b p [])) []) (ne_eqb span.place i other)
        ∙ ap (λ (d : List ℕ). choose (boot_type (kind_at s i)) (head_of (size_at s i) (kind_at s i) ++ d) []) (append-nil (data_so_far s i))
        ∙ sym (record_in s i k)

    flags_same : flags_so_far (s ++ p) ≡ flags_so_far s
    flags_same = flags_whole (s ++ p) (omega (arith, longer)) ∙ ap flags_record (same_flags (s ++ p) s same_head) ∙ sym (flags_whole s whole)

    roll_more_holds : (q : List ℕ) → join_from (record_so_far (s ++ p)) place_count 0 ≡ join_from (record_so_far s) place_count 0 ++ q → roll_so_far (s ++ p) ≡ roll_so_far s ++ q
    unfolding roll_so_far
    roll_more_holds q e = ap₂ (λ (x y : List ℕ). x ++ y) flags_same e ∙ sym (append_assoc (flags_so_far s) (join_from (record_so_far s) place_count 0) q)

    roll_same : ((i : ℕ) → record_so_far (s ++ p) i ≡ record_so_far s i) → roll_so_far (s ++ p) ≡ roll_so_far s
    unfolding roll_so_far
    roll_same h = ap₂ (λ (x y : List ℕ). x ++ y) flags_same (join_same (record_so_far (s ++ p)) (record_so_far s) place_count 0 (λ j l. h j))

    lies : SpanLies s (places_in_order s) (length s) n span
    lies = span_in s n whole

    then_lies : SpanLies (s ++ p) (places_in_order (s ++ p)) (length (s ++ p)) 0 (span_of next 0)
    then_lies = span_in (s ++ p) 0 (omega (arith, longer))

    past : header_size ≤ (state_of s).taken
    past = omega (arith, taken_is s)

    abbrev roll : State
    roll = state_after (roll_so_far s)

    -- the piece is data of a section
    module _ (in-data : span.place < place_count) where
      here : HasBegun s span.place
      here = let q = lies.inside in-data in record { order = q.0; own = q.1 }

      reach : length s + length p ≤ packed s (suc span.place)
      reach = let q = lies.inside in-data in omega arith

      not_after : (i : ℕ) → span.place < i → HasBegun s i → ⊥
      not_after i h k =
          let z = packed_le s {i = suc span.place} {j = i} h in
          omega (arith, reach, k.own)

      other : (i : ℕ) → (i ≡ span.place → ⊥) → record_so_far (s ++ p) i ≡ record_so_far s i
      other i differs =
          ⊎_elim
          (λ k. stays i k (λ e. differs (sym e)))
          (λ none.
          record_out (s ++ p) i
          (λ k.
          let b = begins_now i k none in
          ⊎_elim
          (λ (h : i ≤ span.place). (let z = packed_le s h in omega (arith, here.own, b.1)))
          (λ (h : span.place < i). (let z = packed_le s {i = suc span.place} {j = i} h in omega (arith, reach, b.2)))
          (le_or_lt i span.place))
          ∙ sym (record_out s i none))
          (begun_or_not s i)

      more : record_so_far (s ++ p) span.place ≡ record_so_far s span.place ++ choose (boots span.place) p []
      more =
          record_grown span.place here
          ∙ ap (λ (b : Bool). choose (boot_type (kind_at s span.place)) (head_of (size_at s span.place) (kind_at s span.place) ++ (data_so_far s span.place ++ choose b p [])) []) (eq-eqb span.place span.place refl)
          ∙ choose_joined (boot_type (kind_at s span.place)) (head_of (size_at s span.place) (kind_at s span.place)) (data_so_far s span.place) p
          ∙ ap (λ (l : List ℕ). l ++ choose (boot_type (kind_at s span.place)) p []) (sym (record_in s span.place here))

      kind_is : kept_kind next.headers span.place ≡ kind_at s span.place
      kind_is =
          let z = (placed s span.place here.order).1 in
          state_kind (s ++ p) (omega (arith, longer, reach)) span.place (begun_on span.place here) ∙ kind_stays s p span.place here

      data_grows : data_hashed roll next.headers span.place p ≡ state_after (roll_so_far (s ++ p))
      unfolding data_hashed
      data_grows =
          ap (λ (k : ℕ). choose (boot_type k) (more_hashed roll p) roll) kind_is
          ∙ choose_hashed (boots span.place) (roll_so_far s) p (roll_so_far (s ++ p))
          (roll_more_holds (choose (boots span.place) p [])
          (join_more (record_so_far s) (record_so_far (s ++ p)) span.place (choose (boots span.place) p []) other more (λ j h. record_out s j (not_after j h)) place_count 0 (omega arith) in-data))
          (omega (arith, roll_few (s ++ p)))

    -- the piece is no section's data: one section begins, or none
    module _ (none : place_count ≤ span.place) where
      abbrev first : ℕ
      first = span.begun

      -- the sections that had begun are the first ones
      had : (i : ℕ) → i < first → HasBegun s i
      had i h = let q = lies.begins i h in record { order = q.0; own = q.1 }

      had_all : (i : ℕ) → HasBegun s i → i < first
      had_all i k = lies.begun_all i k.order k.own

      have_all : (i : ℕ) → HasBegun (s ++ p) i → i < (span_of next 0).begun
      have_all i k = then_lies.begun_all i k.order k.own

      unmoved : (i : ℕ) → HasBegun s i → record_so_far (s ++ p) i ≡ record_so_far s i
      unmoved i k = stays i k (λ e. omega (arith, begun_place s i k))

      -- no section begins
      all_stay : (span_of next 0).begun ≤ first → (i : ℕ) → record_so_far (s ++ p) i ≡ record_so_far s i
      all_stay h i =
          ⊎_elim
          (λ k. unmoved i k)
          (λ lacks. record_out (s ++ p) i (λ k. lacks (had i (let z = have_all i k in omega arith))) ∙ sym (record_out s i lacks))
          (begun_or_not s i)

      -- one section begins
      module _ (one : first < (span_of next 0).begun) where
        now_begun : HasBegun (s ++ p) first
        now_begun = let q = then_lies.begins first one in record { order = q.0; own = q.1 }

        lacked : HasBegun s first → ⊥
        lacked k = omega (arith, had_all first k)

        fact : (first < places_in_order s) × (length s < packed s first + section_header_size) × (packed s first + section_header_size ≤ length s + length p)
        fact = begins_now first now_begun lacked

        -- the section's own header ends with the piece
        ends : length s + length p ≤ packed s first + section_header_size
        ends =
            let f = fact in
            let c = few_ordered s in
            ⊎_elim
            (λ x. omega arith)
            (λ x. absurd (omega (arith, packed_suc s first)))
            (lies.outside first f.0 (λ e. omega arith))

        new_other : (i : ℕ) → (i ≡ first → ⊥) → record_so_far (s ++ p) i ≡ record_so_far s i
        new_other i differs =
            ⊎_elim
            (λ k. unmoved i k)
            (λ lacks.
            record_out (s ++ p) i
            (λ k.
            let b = begins_now i k lacks in
            ⊎_elim
            (λ (h : suc first ≤ i). (let z = packed_le s h in omega (arith, ends, b.2, packed_suc s first)))
            (λ (h : i < suc first). lacks (had i (omega arith)))
            (le_or_lt (suc first) i))
            ∙ sym (record_out s i lacks))
            (begun_or_not s i)

        place_is : first < place_count
        place_is = let f = fact in omega (arith, few_ordered s)

        counted : length (s ++ p) ≤ count_limit
        counted =
            let f = fact in
            let z = (placed s first f.0).1 in
            omega (arith, longer, ends, packed_suc s first)

        new_kind : kept_kind next.headers first ≡ kind_at (s ++ p) first
        new_kind = state_kind (s ++ p) counted first now_begun

        new_size : size_at next.header first ≡ size_at (s ++ p) first
        new_size = size_same next.header (s ++ p) (heads (s ++ p) 0 (omega (arith, longer))) first place_is

        abbrev new_head : List ℕ
        new_head = choose (boot_type (kind_at (s ++ p) first)) (head_of (size_at (s ++ p) first) (kind_at (s ++ p) first)) []

        new_more : record_so_far (s ++ p) first ≡ record_so_far s first ++ new_head
        new_more =
            let e = packed_is first (omega (arith, place_is)) in
            record_in (s ++ p) first now_begun
            ∙ ap (λ (d : List ℕ). choose (boot_type (kind_at (s ++ p) first)) (head_of (size_at (s ++ p) first) (kind_at (s ++ p) first) ++ d) [])
            (data_ahead (s ++ p) first (omega (arith, longer, ends)))
            ∙ ap (λ (l : List ℕ). choose (boot_type (kind_at (s ++ p) first)) l []) (append-nil (head_of (size_at (s ++ p) first) (kind_at (s ++ p) first)))
            ∙ sym (ap (λ (l : List ℕ). l ++ new_head) (record_out s first lacked))

        begun_grows : record_begun roll next.header next.headers first ≡ state_after (roll_so_far (s ++ p))
        unfolding record_begun
        begun_grows =
            ap (λ (b : Bool). choose b (choose (boot_type (kept_kind next.headers first)) (more_hashed roll (head_of (size_at next.header first) (kept_kind next.headers first))) roll) roll) (lt-ltb first place_count place_is)
            ∙ ap₂ (λ (k m : ℕ). choose (boot_type k) (more_hashed roll (head_of m k)) roll) new_kind new_size
            ∙ choose_hashed (boot_type (kind_at (s ++ p) first)) (roll_so_far s) (head_of (size_at (s ++ p) first) (kind_at (s ++ p) first)) (roll_so_far (s ++ p))
            (roll_more_holds new_head
            (join_more (record_so_far s) (record_so_far (s ++ p)) first new_head new_other new_more (λ j h. record_out s j (λ k. omega (arith, had_all j k))) place_count 0 (omega arith) place_is))
            (omega (arith, roll_few (s ++ p)))

    sections_roll_grows : roll_more roll next.header next.headers (state_of s).taken next.taken span (span_of next 0).begun p ≡ state_after (roll_so_far (s ++ p))
    sections_roll_grows =
        ⊎_elim
        (λ (h : place_count ≤ span.place).
        ⊎_elim
        (λ (g : (span_of next 0).begun ≤ span.begun).
        more_same roll next.header next.headers (state_of s).taken next.taken span (span_of next 0).begun p past h g
        ∙ ap state_after (sym (roll_same (all_stay h g))))
        (λ (g : span.begun < (span_of next 0).begun).
        more_begun roll next.header next.headers (state_of s).taken next.taken span (span_of next 0).begun p past h g ∙ begun_grows h g)
        (le_or_lt (span_of next 0).begun span.begun))
        (λ (h : span.place < place_count).
        more_data roll next.header next.headers (state_of s).taken next.taken span (span_of next 0).begun p past h ∙ data_grows h)
        (le_or_lt place_count span.place)

  roll_grows : roll_more (state_after (roll_so_far s)) next.header next.headers (state_of s).taken next.taken span (span_of next 0).begun p ≡ state_after (roll_so_far (s ++ p))
  roll_grows = ⊎_elim (λ w. sections_roll_grows w) (λ w. header_grows w) (le_or_lt header_size (length s))

  next_state : (arriving.fed (state_of s) p (length p)).state ≡ next
  next_state = ap (λ (f : ArrivingFed). f.state) (fed_state s p (length p)) ∙ ap (λ (l : List ℕ). state_of (s ++ l)) (take-length p)

  part_grows : roll_part_taken (fingerprinting_state s) span p ≡ fingerprinting_state (s ++ p)
  unfolding roll_part_taken
  part_grows =
      ap (λ (a : Arriving). fingerprinting_of a (roll_more (state_after (roll_so_far s)) a.header a.headers (state_of s).taken a.taken span (span_of a 0).begun p)) next_state
      ∙ ap (fingerprinting_of next) roll_grows

-- ---- one more piece, part by part

fingerprinting_grows : (s piece : List ℕ) → roll_taken_all (fingerprinting_state s) piece ≡ fingerprinting_state (s ++ piece)
fingerprinting_grows s piece = parts_grow (λ (x : Fingerprinting). x.arriving) roll_part_taken fingerprinting_state (λ l. refl) part_grows s piece

pub fed_fingerprinting_holds : (s piece : List ℕ) (allowance : ℕ) → fed_fingerprinting (fingerprinting_state s) piece allowance ≡ fed_fingerprinting_with (fingerprinting_state (s ++ take allowance piece)) (min allowance (length piece))
fed_fingerprinting_holds s piece allowance =
    fed_open (fingerprinting_state s) piece allowance (open_of s) ∙ ap (λ (m : Fingerprinting). fed_fingerprinting_with m (min allowance (length piece))) (fingerprinting_grows s (take allowance piece))
