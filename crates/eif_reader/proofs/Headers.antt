-- The sections' own headers, gathered one after the other: what a write leaves of the parts before it, and that the rules
-- see the gathered headers as they see the image. Assumes nothing.
use Prim.Native.Nat.{ℕ, suc, ◌+◌, ◌*◌, ◌-◌, ◌<◌, ◌≤◌, min}
use mathlib.Core.Path.{◌≡◌, refl, sym, ap, ◌∙◌}
use mathlib.Core.List.{List, ◌++◌}
use mathlib.Core.Logic.{⊎_elim}
use native.Mathlib.Omega.{arith}
use lib.Bits.{bit_xor}
use lib.ListN.{length, take, drop, length-drop, take-append-drop}
use lib.Seq.{length-take-le, take-append-le, drop-append-le}
use Rattle.octets.specs.Over.{over}
use Rattle.octets.proofs.Logic.{le_or_lt}
use Rattle.octets.proofs.Over.{over_parts, over_here}
use Rattle.octets.proofs.Value.{field_length}
use Rattle.crc32.specs.Crc.{crc_from, ones32}
use Rattle.eif.specs.Numbers.{place_count}
use Rattle.eif.specs.Layout.{section_header_size, checksum_at, checksum_end, offset_at, count_of}
use Rattle.eif.specs.Reading.{read_view, read_image}
use Rattle.eif_checksum.proofs.Parts.{in_parts_holds}
use Rattle.eif_judge.specs.Kept.{view_from}
use Rattle.eif_judge.proofs.Kept.{read_kept}
use Rattle.eif_reader.specs.Gathered.{Gathered}

-- ---- a write over a part of a list

front : (k n : ℕ) (a r : List ℕ) → k + n ≤ length a → take n (drop k (a ++ r)) ≡ take n (drop k a)
front k n a r h =
    let e : length (drop k a) ≡ length a - k = length-drop k a in
    ap (take n) (drop-append-le k a r (omega arith)) ∙ take-append-le n (drop k a) r (omega arith)

module _ (d : List ℕ) (at : ℕ) (bs : List ℕ) (fits : at + length bs ≤ length d) where
  pub part_before : (k n : ℕ) → k + n ≤ at → take n (drop k (over d at bs)) ≡ take n (drop k d)
  part_before k n h =
      let e : length (take at d) ≡ at = length-take-le at d (omega arith) in
      ap (λ (l : List ℕ). take n (drop k l)) (over_parts d at bs fits)
      ∙ front k n (take at d) (bs ++ drop (at + length bs) d) (omega arith)
      ∙ sym (front k n (take at d) (drop at d) (omega arith))
      ∙ ap (λ (l : List ℕ). take n (drop k l)) (take-append-drop at d)

-- ---- one place more

module _ (image headers next : List ℕ) (i : ℕ) (room : length headers ≡ section_header_size * place_count) (place : i < place_count) (before : Gathered image headers i) where
  pub gathered_next : offset_at image i + section_header_size ≤ length image
      → next ≡ over headers (section_header_size * i) (take section_header_size (drop (offset_at image i) image)) → Gathered image next (i + 1)
  gathered_next lies e k h l =
      let own = take section_header_size (drop (offset_at image i) image) in
      let size : length own ≡ section_header_size = field_length section_header_size (offset_at image i) image lies in
      let fits : section_header_size * i + length own ≤ length headers = omega arith in
      ⊎_elim
      (λ p. ap (λ (x : List ℕ). take section_header_size (drop (section_header_size * k) x)) e ∙ part_before headers (section_header_size * i) own fits (section_header_size * k) section_header_size (omega arith) ∙ before k (omega arith) l)
      (λ p.
      let q : k ≡ i = omega arith in
      rw q (ap (λ (x : List ℕ). take section_header_size (drop (section_header_size * i) x)) e ∙ over_here headers (section_header_size * i) own fits section_header_size size))
      (le_or_lt (suc k) i)

  pub gathered_same : length image < offset_at image i + section_header_size → next ≡ headers → Gathered image next (i + 1)
  gathered_same outside e k h l =
      ⊎_elim
      (λ p. ap (λ (x : List ℕ). take section_header_size (drop (section_header_size * k) x)) e ∙ before k (omega arith) l)
      (λ p.
      let q : k ≡ i = omega arith in
      let o : offset_at image k ≡ offset_at image i = ap (offset_at image) q in
      absurd (omega arith))
      (le_or_lt (suc k) i)

-- ---- the reading of what was gathered is that of the image

module _ (image headers : List ℕ) (gathered : Gathered image headers (min place_count (count_of image))) where
  -- from the checksum in two parts
  pub read_parts : (front back : List ℕ) (before : ℕ) → front ≡ take checksum_at image → back ≡ drop checksum_end image → before ≡ crc_from ones32 front
      → read_view (view_from image headers (length image)) (bit_xor ones32 (crc_from before back)) ≡ read_image image
  read_parts front back before f b e =
      ap (read_view (view_from image headers (length image))) (in_parts_holds image front back before (crc_from before back) _ f b e refl refl)
      ∙ read_kept image image headers (λ _. refl) (λ i l. gathered i (omega (arith, l.counted, l.place)) l.ends)
