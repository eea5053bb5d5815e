-- Laws of parts that are written one after the other: where they end, the rows of a list, and a text at the start of an empty buffer.
-- Assumes nothing.
use Prim.Native.Nat.{ℕ, suc, ◌+◌, ◌≤◌, ◌<◌}
use mathlib.Core.Path.{◌≡◌, sym, ap, ap₂, ◌∙◌}
use mathlib.Core.List.{List, [], ◌++◌}
use native.Mathlib.Omega.{arith}
use lib.ListN.{length, take, drop, get_or, replicate, length-append, length-replicate, drop_of_length-le}
use lib.Seq.{drop-cons, get_or-take, length-take-le}
use Rattle.io.specs.Counts.{IsPrefixLen}
use Rattle.octets.specs.Over.{over}
use Rattle.octets.proofs.Over.{length_over, over_split, over_row}
use Rattle.eif.specs.declared.Section.{Section}
use Rattle.eif.specs.Reading.{blank_section}
use Rattle.eif_lines.specs.declared.Text.{Text}
use Rattle.eif_lines.specs.Lines.{row_line, row_lines, room_size, in_buffer}

-- where a part ends that is put after another
pub ends : (at : ℕ) (x y : List ℕ) {m r : ℕ} → m ≡ at + length x → r ≡ m + length y → r ≡ at + length (x ++ y)
ends at x y e f = let n = length-append x y in omega arith

-- ---- rows

abbrev pub row_at : List Section → ℕ → List ℕ
row_at sections i = row_line i (get_or sections i blank_section)

-- the rows from an index on, of the first so many sections
abbrev pub rows_from : List Section → ℕ → ℕ → List ℕ
rows_from sections count i = row_lines i (drop i (take count sections))

module _ (sections : List Section) (count i : ℕ) (fits : count ≤ length sections) where
  pub rows_next : i < count → rows_from sections count i ≡ row_at sections i ++ rows_from sections count (suc i)
  unfolding row_lines
  rows_next h =
      let n = length-take-le count sections fits in
      ap (row_lines i) (drop-cons (take count sections) i blank_section (omega arith))
      ∙ ap (λ (s : Section). row_line i s ++ row_lines (suc i) (drop (suc i) (take count sections))) (get_or-take count sections i blank_section h)

  pub rows_none : count ≤ i → rows_from sections count i ≡ []
  unfolding row_lines
  rows_none h =
      let n = length-take-le count sections fits in
      let past : length (take count sections) ≤ i = omega arith in
      ap (row_lines i) (drop_of_length-le (take count sections) past)

  pub rows_size : i < count → length (rows_from sections count i) ≡ length (row_at sections i) + length (rows_from sections count (suc i))
  rows_size h = ap length (rows_next h) ∙ length-append (row_at sections i) (rows_from sections count (suc i))

  pub rows_over : i < count → (d : List ℕ) (at : ℕ)
      → over (over d at (row_at sections i)) (at + length (row_at sections i)) (rows_from sections count (suc i)) ≡ over d at (rows_from sections count i)
  rows_over h d at = over_split d at (row_at sections i) (rows_from sections count (suc i)) (rows_from sections count i) (rows_next h)

  pub rows_done : count ≤ i → (d : List ℕ) (at : ℕ) → over d at (rows_from sections count i) ≡ d
  unfolding over
  rows_done h d at = ap (over d at) (rows_none h)

-- ---- a text in the buffer

abbrev pub text : List ℕ → ℕ → Text
text b n = record { bytes = b; length = n }

module _ (z t b : List ℕ) (n : ℕ) (empty : z ≡ replicate room_size 0) (put : b ≡ over z 0 t) (ended : n ≡ length t) (fits : n ≤ room_size) where
  pub text_filled : text b n ≡ in_buffer t
  unfolding in_buffer
  text_filled = ap₂ text (put ∙ ap (λ (l : List ℕ). over l 0 t) empty ∙ over_row room_size 0 t (omega arith)) ended

  pub text_counts : IsPrefixLen n b
  text_counts =
      let l : length b ≡ room_size = ap length put ∙ length_over z 0 t ∙ ap length empty ∙ length-replicate {A = ℕ} room_size 0 in
      (omega arith, sym (length-take-le n b (omega arith)))
