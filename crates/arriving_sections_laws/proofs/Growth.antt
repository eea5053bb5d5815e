-- How the data that has arrived of a section grows by a piece whose bytes belong together.
use Prim.Native.Nat.{ℕ, suc, ◌+◌, ◌-◌, ◌<◌, ◌≤◌, min}
use mathlib.Core.Path.{◌≡◌, refl, sym, ap, ap₂, ◌∙◌}
use mathlib.Core.List.{List, [], ◌++◌, append-nil}
use mathlib.Core.Logic.{◌⊎◌, inl, inr, ⊎_elim}
use native.Mathlib.Omega.{arith}
use borrow.Author.Tests.{lt-ltb, le-ltb, eq-eqb, ne_eqb}
use lib.Dec.{eqb}
use lib.ListN.{length, take, drop, length-take, length-drop, length-append, drop_of_length-le}
use lib.Seq.{take-nil, take_all, take-take, take-append-le}
use Rattle.octets.specs.Logic.{choose}
use Rattle.octets.proofs.Lists.{take_both, drop_both}
use Rattle.octets.proofs.Logic.{equal_or_not, le_or_lt}
use Rattle.eif.specs.Numbers.{place_count}
use Rattle.eif.specs.Layout.{header_size, section_header_size, size_at}
use Rattle.arriving.specs.State.{padded, count_limit, kept_of, state_of}
use Rattle.arriving_laws.proofs.Padded.{padded_first}
use Rattle.arriving_laws.proofs.Growth.{taken_of_holds}
use Rattle.arriving_sections.specs.Span.{none_for, used_places, span_from, span_of}
use Rattle.arriving_sections.specs.declared.Span.{Span}
use Rattle.arriving_sections.proofs.Steps.{span_header, span_sections}
use Rattle.arriving_sections_laws.specs.Given.{places_in_order, data_so_far}
use Rattle.arriving_sections_laws.proofs.Order.{packed, packed_suc, packed_first, packed_le, Placed, ordered_placed, ordered_most, SpanLies, span_lies}
use Rattle.arriving_sections_laws.proofs.Heads.{ordered_same, packed_same, size_same, span_same}

-- ---- a part of two joined lists

-- a part that begins in the first list and contains the second
part_in : (k at : ℕ) (x y : List ℕ) → at ≤ length x → length x + length y ≤ at + k → take k (drop at (x ++ y)) ≡ take k (drop at x) ++ y
part_in k at x y h g =
    let z : at - length x ≡ 0 = omega arith in
    let e : drop at (x ++ y) ≡ drop at x ++ y = drop_both at x y ∙ ap (λ (n : ℕ). drop at x ++ drop n y) z in
    let n = length-drop at x in
    ap (take k) e ∙ take_both k (drop at x) y
    ∙ ap (λ (l : List ℕ). take k (drop at x) ++ l) (take_all (k - length (drop at x)) y (omega arith))

-- a part that begins after both lists, or ends in the first
part_out : (k at : ℕ) (x y : List ℕ) → (length x + length y ≤ at) ⊎ (at + k ≤ length x) → take k (drop at (x ++ y)) ≡ take k (drop at x)
part_out k at x y (inl h) =
    let n = length-append x y in
    ap (take k) (drop_of_length-le (x ++ y) {i = at} (omega arith) ∙ sym (drop_of_length-le x {i = at} (omega arith)))
part_out k at x y (inr h) =
    let z : at - length x ≡ 0 = omega arith in
    let e : drop at (x ++ y) ≡ drop at x ++ y = drop_both at x y ∙ ap (λ (n : ℕ). drop at x ++ drop n y) z in
    let n = length-drop at x in
    ap (take k) e ∙ take-append-le k (drop at x) y (omega arith)

-- ---- the data so far

module _ (s : List ℕ) where
  pub few_ordered : places_in_order s ≤ place_count
  few_ordered = omega (arith, ordered_most s (used_places s) 0 header_size)

  pub placed : (i : ℕ) → i < places_in_order s → Placed s i
  placed i h = ordered_placed s (used_places s) 0 header_size (sym (packed_first s)) i (omega arith) h

  pub data_in_holds : (i : ℕ) → i < places_in_order s → data_so_far s i ≡ take (size_at s i) (drop (packed s i + section_header_size) s)
  unfolding data_so_far
  data_in_holds i h = simp (lt-ltb _ _ h) (ap (λ (n : ℕ). take (size_at s i) (drop (n + section_header_size) s)) (placed i h).0)

  pub data_none : (i : ℕ) → places_in_order s ≤ i → data_so_far s i ≡ []
  unfolding data_so_far
  data_none i h = simp (le-ltb _ _ h)

  -- no data has arrived before a section's own header is whole
  pub data_ahead : (i : ℕ) → length s ≤ packed s i + section_header_size → data_so_far s i ≡ []
  data_ahead i h =
      ⊎_elim
      (λ g. data_none i g)
      (λ g. data_in_holds i g ∙ ap (take (size_at s i)) (drop_of_length-le s {i = packed s i + section_header_size} h) ∙ take-nil (size_at s i))
      (le_or_lt (places_in_order s) i)

  pub data_early : (i : ℕ) → length s ≤ header_size → data_so_far s i ≡ []
  data_early i h = let q = packed_le s {i = 0} {j = i} (omega arith) in data_ahead i (omega (arith, packed_first s))

-- ---- one more piece, once the file's header is whole

module _ (s p : List ℕ) (whole : header_size ≤ length s) where
  same_head : take header_size (s ++ p) ≡ take header_size s
  same_head = take-append-le header_size s p whole

  module _ (n : ℕ) (r : Span) (lies : SpanLies s (places_in_order s) (length s) n r) (fits : length p ≤ r.length) where
    pub data_grows : (i : ℕ) → i < place_count → data_so_far (s ++ p) i ≡ data_so_far s i ++ choose (eqb r.place i) p []
    data_grows i h =
        ⊎_elim
        (λ (g : places_in_order s ≤ i).
        let no : r.place ≡ i → ⊥ = λ e. (let q = lies.inside (omega arith) in omega arith) in
        data_none (s ++ p) i (omega (arith, o)) ∙ sym (ap₂ (λ (x y : List ℕ). x ++ y) (data_none s i g) (simp (ne_eqb _ _ no))))
        (λ (g : i < places_in_order s).
        let e : data_so_far (s ++ p) i ≡ take (size_at s i) (drop (packed s i + section_header_size) (s ++ p)) =
        data_in_holds (s ++ p) i (omega (arith, o))
        ∙ ap₂ (λ (k at : ℕ). take k (drop (at + section_header_size) (s ++ p))) (size_same (s ++ p) s same_head i h) (packed_same (s ++ p) s same_head i (omega arith)) in
        ⊎_elim
        (λ (q : i ≡ r.place). e ∙ here i g q ∙ ap₂ (λ (x y : List ℕ). x ++ y) (sym (data_in_holds s i g)) (sym (simp (eq-eqb _ _ (sym q)))))
        (λ (q : i ≡ r.place → ⊥).
        e ∙ there i g q ∙ sym (data_in_holds s i g) ∙ sym (append-nil (data_so_far s i)) ∙ ap (λ (x : List ℕ). data_so_far s i ++ x) (sym (simp (ne_eqb _ _ (λ k. q (sym k))))))
        (equal_or_not i r.place))
        (le_or_lt (places_in_order s) i)
      where
        o : places_in_order (s ++ p) ≡ places_in_order s
        o = ordered_same (s ++ p) s same_head

        here : (i : ℕ) → i < places_in_order s → i ≡ r.place
            → take (size_at s i) (drop (packed s i + section_header_size) (s ++ p)) ≡ take (size_at s i) (drop (packed s i + section_header_size) s) ++ p
        here i g q =
            let l = few_ordered s in
            let w = lies.inside (omega arith) in
            let a : packed s i ≡ packed s r.place = ap (packed s) q in
            let b : packed s (suc i) ≡ packed s (suc r.place) = ap (λ (k : ℕ). packed s (suc k)) q in
            part_in (size_at s i) (packed s i + section_header_size) s p (omega arith) (omega (arith, packed_suc s i))

        there : (i : ℕ) → i < places_in_order s → (i ≡ r.place → ⊥)
            → take (size_at s i) (drop (packed s i + section_header_size) (s ++ p)) ≡ take (size_at s i) (drop (packed s i + section_header_size) s)
        there i g q =
            part_out (size_at s i) (packed s i + section_header_size) s p
            (⊎_elim (λ x. inl (omega arith)) (λ x. inr (omega (arith, packed_suc s i))) (lies.outside i g q))

-- ---- a span of the state of bytes

module _ (s : List ℕ) (n : ℕ) where
  header_of : (state_of s).header ≡ padded header_size (take count_limit s)
  unfolding state_of kept_of
  header_of = refl

  taken_is : (state_of s).taken ≡ min count_limit (length s)
  taken_is = taken_of_holds s ∙ length-take count_limit s

  abbrev span_here : Span
  span_here = span_of (state_of s) n

  pub span_early : length s < header_size → span_here ≡ none_for 0 (min n (header_size - length s))
  span_early h =
      let t : (state_of s).taken ≡ length s = taken_is ∙ omega arith in
      span_header (state_of s) n (omega arith) ∙ ap (λ (k : ℕ). none_for 0 (min n (header_size - k))) t

  module _ (whole : header_size ≤ length s) where
    pub heads : take header_size (state_of s).header ≡ take header_size s
    heads =
        let l : header_size ≤ length (take count_limit s) = rw (length-take count_limit s) (omega arith) in
        ap (take header_size) (header_of ∙ padded_first header_size (take count_limit s) l)
        ∙ take-take header_size header_size (take count_limit s) (omega arith)
        ∙ take-take header_size count_limit s (omega arith)

    span_is : span_here ≡ span_from s (used_places s) 0 header_size (min count_limit (length s)) n
    span_is =
        span_sections (state_of s) n (omega (arith, taken_is)) ∙ span_same (state_of s).header s heads (state_of s).taken n
        ∙ ap (λ (k : ℕ). span_from s (used_places s) 0 header_size k n) taken_is

    -- all sections in order end before the counter's limit
    lies_far : (r : Span) → SpanLies s (places_in_order s) (min count_limit (length s)) n r → SpanLies s (places_in_order s) (length s) n r
    lies_far r l =
        ⊎_elim
        (λ (h : length s ≤ count_limit). let e : min count_limit (length s) ≡ length s = omega arith in rw e at l)
        (λ (h : count_limit < length s).
        record {
          some = l.some;
          few = l.few;
          begins = λ j k. (let q = l.begins j k in (q.0, omega (arith, q.1)));
          begun_all = λ j k g. l.begun_all j k (let z = (placed s j k).1 in omega (arith, packed_suc s j));
          inside = λ k.
              let q = l.inside k in
              let z = (placed s r.place q.0).1 in
              absurd (omega arith);
          outside = λ j k e. inr (let z = (placed s j k).1 in omega arith);
        })
        (le_or_lt (length s) count_limit)

    pub span_in : SpanLies s (places_in_order s) (length s) n span_here
    span_in =
        lies_far span_here
        (rw span_is (span_lies s (min count_limit (length s)) n (used_places s) 0 header_size (sym (packed_first s)) (omega arith) (omega arith)))

-- ---- one more piece of bytes that belong together

pub sections_grow : (s p : List ℕ) (n : ℕ) → length p ≤ (span_of (state_of s) n).length → (i : ℕ) → i < place_count
    → data_so_far (s ++ p) i ≡ data_so_far s i ++ choose (eqb (span_of (state_of s) n).place i) p []
sections_grow s p n h i l =
    ⊎_elim
    (λ (g : header_size ≤ length s). data_grows s p g n (span_of (state_of s) n) (span_in s n g) h i l)
    (λ (g : length s < header_size).
    let e = span_early s n g in
    let k = ap (λ (r : Span). r.length) e in
    let no : (span_of (state_of s) n).place ≡ i → ⊥ = λ q. omega (arith, ap (λ (r : Span). r.place) e) in
    data_early (s ++ p) i (omega (arith, length-append s p))
    ∙ sym (ap₂ (λ (x y : List ℕ). x ++ y) (data_early s i (omega arith)) (simp (ne_eqb _ _ no))))
    (le_or_lt header_size (length s))
