-- The answer of the state of bytes is the whole reader's answer on them.
-- Assumes nothing.
use Prim.Native.Nat.{ℕ, ◌*◌, ◌<◌, ◌≤◌}
use mathlib.Core.Path.{◌≡◌, refl, sym, ap, ◌∙◌}
use mathlib.Core.List.{List}
use mathlib.Core.Logic.{⊎_elim}
use native.Mathlib.Omega.{arith}
use lib.Bits.{bit_xor}
use lib.ListN.{length, take, drop, length-take, length-drop}
use lib.Seq.{take_all, take-take, take_at}
use Rattle.octets.proofs.Logic.{le_or_lt}
use Rattle.crc32.specs.Crc.{crc32, ones32}
use Rattle.eif.specs.Numbers.{size_limit, place_count, image_too_long}
use Rattle.eif.specs.Answers.{refuse}
use Rattle.eif.specs.Layout.{header_size, section_header_size, offsets_at, view_of, offset_at, entry_size, entry_at}
use Rattle.eif.specs.Reading.{checksum_of, blank_reading, read_view, read_image}
use Rattle.eif_lemmas.proofs.Reading.{read_too_long}
use Rattle.eif_lemmas.proofs.Agree.{Lies}
use Rattle.eif_lemmas.proofs.Table.{join_next, join_from_holds}
use Rattle.eif_judge.proofs.Kept.{field_part, read_kept}
use Rattle.arriving.specs.State.{padded, kept_from, header_in, headers_of, kept_of, state_of, count_limit}
use Rattle.arriving.specs.Calls.{view_in, answer_of}
use Rattle.arriving_laws.proofs.Padded.{length_padded, padded_first}

-- ---- bytes that the counter can count

module _ (s : List ℕ) where
  abbrev header : List ℕ
  header = padded header_size s

  begins : header_size ≤ length s → take header_size header ≡ take header_size s
  begins h = ap (take header_size) (padded_first header_size s h) ∙ take-take header_size header_size s (omega arith)

  -- the own header of section i
  pub owns : (i : ℕ) → Lies (view_of s) i
      → take section_header_size (drop (section_header_size * i) (headers_of header s)) ≡ take section_header_size (drop (offset_at s i) s)
  unfolding headers_of kept_from
  owns i l =
      let e : offset_at header i ≡ offset_at s i =
      field_part entry_size (entry_at offsets_at i) header_size header s (omega (arith, l.place)) (begins (omega (arith, l.starts, l.ends))) in
      let o : kept_from header i ≡ offset_at s i = omega (arith, e, l.starts) in
      let fits : section_header_size ≤ length (drop (offset_at s i) s) = rw (length-drop (offset_at s i) s) (omega (arith, l.ends)) in
      let long : (j : ℕ) → length (header_in header s j) ≡ section_header_size = λ j. length_padded section_header_size (drop (kept_from header j) s) in
      ap (take section_header_size)
      (join_from_holds (header_in header s) (λ (j : ℕ). section_header_size * j) place_count (λ j h. omega (arith, long j)) (headers_of header s) refl i (omega (arith, l.place))
      ∙ join_next (header_in header s) place_count i l.place)
      ∙ take_at (header_in header s i) _ section_header_size (long i)
      ∙ ap (λ (n : ℕ). padded section_header_size (drop n s)) o
      ∙ padded_first section_header_size (drop (offset_at s i) s) fits

  sum_is : bit_xor ones32 (kept_of s).checksum ≡ checksum_of s
  unfolding kept_of checksum_of crc32
  sum_is = refl

  kept_answer : answer_of (kept_of s) ≡ read_image s
  unfolding answer_of kept_of
  kept_answer = ap (read_view (view_in (kept_of s))) sum_is ∙ read_kept s header (headers_of header s) begins owns

-- ---- more bytes than that: too long, whatever they are

pub image_too_long_holds : (s : List ℕ) → size_limit < length s → read_image s ≡ blank_reading (refuse image_too_long 0)
image_too_long_holds s h = read_too_long (view_of s) (checksum_of s) h

sized : (s : List ℕ) → count_limit < length s → size_limit < (view_in (kept_of (take count_limit s))).size
unfolding kept_of
sized s h = rw (length-take count_limit s) (omega arith)

pub answer_of_holds : (s : List ℕ) → answer_of (state_of s) ≡ read_image s
unfolding answer_of state_of
answer_of_holds s =
    ⊎_elim
    (λ (h : length s ≤ count_limit). ap (λ (l : List ℕ). answer_of (kept_of l)) (take_all count_limit s h) ∙ kept_answer s)
    (λ (h : count_limit < length s). read_too_long (view_in (kept_of (take count_limit s))) _ (sized s h) ∙ sym (image_too_long_holds s (omega arith)))
    (le_or_lt (length s) count_limit)
