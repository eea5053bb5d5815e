-- Where the sections in order lie, and where a span lies among them.
use Prim.Native.Nat.{ℕ, zero, suc, ◌+◌, ◌-◌, ◌<◌, ◌≤◌, min}
use mathlib.Core.Path.{◌≡◌, refl, sym, ap, ◌∙◌}
use mathlib.Core.Bool.{Bool}
use mathlib.Core.List.{List}
use mathlib.Core.Logic.{◌⊎◌, inl, inr, ⊎_elim}
use native.Mathlib.Omega.{arith}
use borrow.Author.Tests.{eq-eqb, ne_eqb, le-leb, lt-leb}
use lib.Dec.{leb}
use Rattle.octets.specs.Logic.{both, choose}
use Rattle.octets.proofs.Logic.{equal_or_not, le_or_lt, both_none}
use Rattle.eif.specs.Numbers.{place_count, size_limit}
use Rattle.eif.specs.Layout.{header_size, section_header_size, packed_by, offset_at, size_at}
use Rattle.arriving_sections.specs.Span.{none_for, data_for, span_from}
use Rattle.arriving_sections.specs.declared.Span.{Span}
use Rattle.arriving_sections.proofs.Steps.{step_elsewhere, step_long, step_own, step_data_holds, step_on}
use Rattle.arriving_sections_laws.specs.Given.{ordered_from}

module _ (s : List ℕ) where
  abbrev pub packed : ℕ → ℕ
  packed i = packed_by (size_at s) i

  pub packed_suc : (i : ℕ) → packed (suc i) ≡ packed i + section_header_size + size_at s i
  unfolding packed_by
  packed_suc i = refl

  pub packed_first : packed 0 ≡ header_size
  unfolding packed_by
  packed_first = refl

  pub packed_more : (i k : ℕ) → packed i ≤ packed (i + k)
  packed_more i zero = let e : packed (i + 0) ≡ packed i = ap packed (omega arith) in omega arith
  packed_more i (suc k) =
      let h = packed_more i k in
      let e : packed (i + suc k) ≡ packed (suc (i + k)) = ap packed (omega arith) in
      omega (arith, packed_suc (i + k))

  pub packed_le : {i j : ℕ} → i ≤ j → packed i ≤ packed j
  packed_le {i} {j} h =
      let e : packed (i + (j - i)) ≡ packed j = ap packed (omega arith) in
      omega (arith, packed_more i (j - i))

  -- ---- whether one section is in order

  module _ (m i begin : ℕ) where
    pub order_elsewhere : (offset_at s i ≡ begin → ⊥) → ordered_from s (suc m) i begin ≡ i
    unfolding ordered_from
    order_elsewhere h =
        let end = begin + section_header_size + size_at s i in
        ap (λ (b : Bool). choose (both b (leb end size_limit)) (ordered_from s m (suc i) end) i) (ne_eqb (offset_at s i) begin h)

    pub order_long : size_limit < begin + section_header_size + size_at s i → ordered_from s (suc m) i begin ≡ i
    unfolding ordered_from
    order_long h = simp (lt-leb _ _ h, both_none)

    pub order_on : offset_at s i ≡ begin → begin + section_header_size + size_at s i ≤ size_limit
        → ordered_from s (suc m) i begin ≡ ordered_from s m (suc i) (begin + section_header_size + size_at s i)
    unfolding ordered_from
    order_on e h = simp (eq-eqb _ _ e, le-leb _ _ h)

  pub ordered_none : (i begin : ℕ) → ordered_from s 0 i begin ≡ i
  unfolding ordered_from
  ordered_none i begin = refl

  -- the three cases: begins elsewhere, too long, in order
  by_order : {A : Type 0} (i begin : ℕ) → ((offset_at s i ≡ begin → ⊥) → A)
      → (offset_at s i ≡ begin → size_limit < begin + section_header_size + size_at s i → A)
      → (offset_at s i ≡ begin → begin + section_header_size + size_at s i ≤ size_limit → A) → A
  by_order i begin f g h =
      ⊎_elim
      (λ e. ⊎_elim (λ l. h e l) (λ l. g e l) (le_or_lt (begin + section_header_size + size_at s i) size_limit))
      f
      (equal_or_not (offset_at s i) begin)

  pub ordered_least : (m i begin : ℕ) → i ≤ ordered_from s m i begin
  ordered_least zero i begin = omega (arith, ordered_none i begin)
  ordered_least (suc m) i begin =
      by_order i begin
      (λ f. omega (arith, order_elsewhere m i begin f))
      (λ e l. omega (arith, order_long m i begin l))
      (λ e l. omega (arith, order_on m i begin e l, ordered_least m (suc i) (begin + section_header_size + size_at s i)))

  pub ordered_most : (m i begin : ℕ) → ordered_from s m i begin ≤ i + m
  ordered_most zero i begin = omega (arith, ordered_none i begin)
  ordered_most (suc m) i begin =
      by_order i begin
      (λ f. omega (arith, order_elsewhere m i begin f))
      (λ e l. omega (arith, order_long m i begin l))
      (λ e l. omega (arith, order_on m i begin e l, ordered_most m (suc i) (begin + section_header_size + size_at s i)))

  -- section j begins where the one before it ends, and ends within the longest image
  abbrev pub Placed : ℕ → Type 0
  Placed j = (offset_at s j ≡ packed j) × (packed (suc j) ≤ size_limit)

  pub ordered_placed : (m i begin : ℕ) → begin ≡ packed i → (j : ℕ) → i ≤ j → j < ordered_from s m i begin → Placed j
  ordered_placed zero i begin b j h g = absurd (omega (arith, ordered_none i begin))
  ordered_placed (suc m) i begin b j h g =
      by_order i begin
      (λ f. absurd (omega (arith, order_elsewhere m i begin f)))
      (λ e l. absurd (omega (arith, order_long m i begin l)))
      (λ e l.
      ⊎_elim
      (λ (q : i ≡ j).
      let k : offset_at s j ≡ packed j = ap (offset_at s) (sym q) ∙ e ∙ b ∙ ap packed q in
      let z : packed (suc i) ≡ packed (suc j) = ap (λ (x : ℕ). packed (suc x)) q in
      (k, omega (arith, packed_suc i)))
      (λ (q : i ≡ j → ⊥).
      ordered_placed m (suc i) (begin + section_header_size + size_at s i) (omega (arith, packed_suc i)) j (omega arith) (omega (arith, order_on m i begin e l)))
      (equal_or_not i j))

  -- if every section is placed so, all are in order
  pub ordered_all : (m i begin : ℕ) → begin ≡ packed i → ((j : ℕ) → i ≤ j → j < i + m → Placed j) → ordered_from s m i begin ≡ i + m
  ordered_all zero i begin b h = omega (arith, ordered_none i begin)
  ordered_all (suc m) i begin b h =
      let p = h i (omega arith) (omega arith) in
      order_on m i begin (p.0 ∙ sym b) (omega (arith, packed_suc i))
      ∙ ordered_all m (suc i) (begin + section_header_size + size_at s i) (omega (arith, packed_suc i)) (λ j a l. h j (omega arith) (omega arith))
      ∙ omega arith

  -- ---- where the span after `taken` bytes lies, if the first o sections are in order

  pub record SpanLies (o taken n : ℕ) (r : Span) : Type 0 where
    pub some : 0 < n → 0 < r.length
    pub few : r.length ≤ n
    -- the sections that have begun are those in order whose own headers have come
    pub begins : (j : ℕ) → j < r.begun → (j < o) × (packed j + section_header_size ≤ taken)
    pub begun_all : (j : ℕ) → j < o → packed j + section_header_size ≤ taken → j < r.begun
    -- a span of a section's data lies inside that data
    pub inside : r.place < place_count → (r.place < o) × (packed r.place + section_header_size ≤ taken) × (taken + r.length ≤ packed (suc r.place))
    -- it lies before or after the data of every other section
    pub outside : (j : ℕ) → j < o → (j ≡ r.place → ⊥) → (taken + r.length ≤ packed j + section_header_size) ⊎ (packed (suc j) ≤ taken)

  module _ (taken n : ℕ) where
    -- the span lies after all sections in order
    lies_after : (o k : ℕ) → k ≤ n → (0 < n → 0 < k) → packed o ≤ taken → SpanLies o taken n (none_for o k)
    lies_after o k few some h =
        record {
          some = some;
          few = few;
          begins = λ j l. (l, (let q = packed_le {i = suc j} {j = o} l in omega (arith, packed_suc j)));
          begun_all = λ j l g. l;
          inside = λ l. absurd (omega arith);
          outside = λ j l e. inr (let q = packed_le {i = suc j} {j = o} l in omega arith);
        }

    lies_at : {o p : ℕ} {r q : Span} → o ≡ p → r ≡ q → SpanLies p taken n q → SpanLies o taken n r
    lies_at a b l = rw (a, b) l

    pub span_lies : (m i begin : ℕ) → begin ≡ packed i → begin ≤ taken → i + m ≤ place_count
        → SpanLies (ordered_from s m i begin) taken n (span_from s m i begin taken n)
    unfolding span_from ordered_from
    span_lies zero i begin b h g = lies_after i n (omega arith) (λ l. l) (omega arith)
    span_lies (suc m) i begin b h g =
        by_order i begin
        (λ f. lies_at (order_elsewhere m i begin f) (step_elsewhere s m i begin taken n f) (lies_after i n (omega arith) (λ l. l) (omega arith)))
        (λ e l. lies_at (order_long m i begin l) (step_long s m i begin taken n e l) (lies_after i n (omega arith) (λ k. k) (omega arith)))
        (λ e l.
        ⊎_elim
        (λ (p : start ≤ taken).
        ⊎_elim
        (λ (q : end ≤ taken).
        lies_at (order_on m i begin e l) (step_on s m i begin taken n e l p q) (span_lies m (suc i) end next q (omega arith)))
        (λ (q : taken < end). lies_at (order_on m i begin e l) (step_data_holds s m i begin taken n e l p q) (in_data p q))
        (le_or_lt end taken))
        (λ (p : taken < start). lies_at (order_on m i begin e l) (step_own s m i begin taken n e l p) (in_own p))
        (le_or_lt start taken))
      where
        start : ℕ
        start = begin + section_header_size

        end : ℕ
        end = begin + section_header_size + size_at s i

        next : end ≡ packed (suc i)
        next = omega (arith, packed_suc i)

        rest : ℕ
        rest = ordered_from s m (suc i) end

        -- an earlier section has ended
        passed : (j : ℕ) → j < i → packed (suc j) ≤ taken
        passed j l = let q = packed_le {i = suc j} {j = i} l in omega arith

        in_own : taken < start → SpanLies rest taken n (none_for i (min n (start - taken)))
        in_own p =
            record {
              some = λ l. omega arith;
              few = omega arith;
              begins = λ j l. (let z = ordered_least m (suc i) end in omega arith, omega (arith, packed_suc j, passed j l));
              begun_all = λ j l g. ⊎_elim (λ (q : i ≤ j). absurd (let z = packed_le q in omega arith)) (λ (q : j < i). q) (le_or_lt i j);
              inside = λ l. absurd (omega arith);
              outside = λ j l k.
                  ⊎_elim
                  (λ (q : i ≤ j). inl (let z = packed_le q in omega arith))
                  (λ (q : j < i). inr (passed j q))
                  (le_or_lt i j);
            }

        in_data : start ≤ taken → taken < end → SpanLies rest taken n (data_for i (min n (end - taken)))
        in_data p q =
            record {
              some = λ l. omega arith;
              few = omega arith;
              begins = λ j l. (
                let z = ordered_least m (suc i) end in omega arith,
                ⊎_elim (λ (q : i ≤ j). (let z : packed j ≡ packed i = ap packed (omega arith) in omega arith)) (λ (q : j < i). omega (arith, packed_suc j, passed j q)) (le_or_lt i j),
              );
              begun_all = λ j l g. ⊎_elim (λ (x : suc i ≤ j). absurd (let z = packed_le x in omega (arith, next))) (λ (x : j < suc i). omega arith) (le_or_lt (suc i) j);
              inside = λ l. (ordered_least m (suc i) end, omega arith, omega (arith, next));
              outside = λ j l k.
                  ⊎_elim
                  (λ (x : suc i ≤ j). inl (let z = packed_le x in omega (arith, next)))
                  (λ (x : j < suc i). inr (passed j (omega arith)))
                  (le_or_lt (suc i) j);
            }
