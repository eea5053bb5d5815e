-- One step of the walk: what `span_from` is at a section, by where the section begins and ends.
use Prim.Native.Nat.{ℕ, suc, ◌+◌, ◌-◌, ◌<◌, ◌≤◌, min}
use mathlib.Core.Path.{◌≡◌}
use mathlib.Core.List.{List}
use borrow.Author.Tests.{eq-eqb, ne_eqb, lt-ltb, le-ltb}
use Rattle.eif.specs.Numbers.{size_limit}
use Rattle.eif.specs.Layout.{header_size, section_header_size, offset_at, size_at}
use Rattle.arriving.specs.declared.Arriving.{Arriving}
use Rattle.arriving_sections.specs.Span.{none_for, data_for, used_places, span_from, span_of}
use Rattle.arriving_sections.specs.declared.Span.{Span}

module _ (header : List ℕ) (m i begin taken n : ℕ) where
  abbrev pub data_start : ℕ
  data_start = begin + section_header_size

  abbrev pub data_end : ℕ
  data_end = begin + section_header_size + size_at header i

  abbrev here : Span
  here = span_from header (suc m) i begin taken n

  -- the section begins elsewhere
  pub step_elsewhere : (offset_at header i ≡ begin → ⊥) → here ≡ none_for i n
  unfolding span_from
  step_elsewhere h = simp (ne_eqb _ _ h)

  module _ (begins : offset_at header i ≡ begin) where
    -- the section would end past the longest image
    pub step_long : size_limit < data_end → here ≡ none_for i n
    unfolding span_from
    step_long h = simp (eq-eqb _ _ begins, lt-ltb _ _ h)

    module _ (ends : data_end ≤ size_limit) where
      -- the next byte is in the section's own header
      pub step_own : taken < data_start → here ≡ none_for i (min n (data_start - taken))
      unfolding span_from
      step_own h = simp (eq-eqb _ _ begins, le-ltb _ _ ends, lt-ltb _ _ h)

      module _ (past : data_start ≤ taken) where
        -- the next byte is in the section's data
        pub step_data_holds : taken < data_end → here ≡ data_for i (min n (data_end - taken))
        unfolding span_from
        step_data_holds h = simp (eq-eqb _ _ begins, le-ltb _ _ ends, le-ltb _ _ past, lt-ltb _ _ h)

        -- the next byte is after the section
        pub step_on : data_end ≤ taken → here ≡ span_from header m (suc i) data_end taken n
        unfolding span_from
        step_on h = simp (eq-eqb _ _ begins, le-ltb _ _ ends, le-ltb _ _ past, le-ltb _ _ h)

-- ---- before the end of the file's header, and after it

pub span_header : (a : Arriving) (n : ℕ) → a.taken < header_size → span_of a n ≡ none_for 0 (min n (header_size - a.taken))
unfolding span_of
span_header a n h = simp (lt-ltb _ _ h)

pub span_sections : (a : Arriving) (n : ℕ) → header_size ≤ a.taken → span_of a n ≡ span_from a.header (used_places a.header) 0 header_size a.taken n
unfolding span_of
span_sections a n h = simp (le-ltb _ _ h)
