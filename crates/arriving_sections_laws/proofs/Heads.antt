-- Two byte strings with the same header have the same sections in order, and the same spans.
use Prim.Native.Nat.{ℕ, zero, suc, ◌+◌, ◌-◌, ◌<◌, ◌≤◌, min}
use mathlib.Core.Path.{◌≡◌, refl, ap, ap₂, ◌∙◌}
use mathlib.Core.Bool.{not}
use mathlib.Core.List.{List}
use native.Mathlib.Omega.{arith}
use lib.Dec.{ltb, leb, eqb}
use lib.ListN.{take}
use Rattle.octets.specs.Logic.{both, choose}
use Rattle.eif.specs.Numbers.{place_count, size_limit}
use Rattle.eif.specs.Layout.{header_size, section_header_size, count_at, offsets_at, sizes_at, entry_size, entry_at, packed_by, count_of, offset_at, size_at}
use Rattle.eif_judge.proofs.Kept.{field_part}
use Rattle.arriving_sections.specs.Span.{none_for, data_for, used_places, span_from}
use Rattle.arriving_sections.specs.declared.Span.{Span}
use Rattle.arriving_sections_laws.specs.Given.{ordered_from, places_in_order}

module _ (a b : List ℕ) (e : take header_size a ≡ take header_size b) where
  pub count_same : count_of a ≡ count_of b
  count_same = field_part 2 count_at header_size a b (omega arith) e

  pub used_same : used_places a ≡ used_places b
  used_same = ap (λ (n : ℕ). min n place_count) count_same

  pub offset_same : (i : ℕ) → i < place_count → offset_at a i ≡ offset_at b i
  offset_same i h = field_part entry_size (entry_at offsets_at i) header_size a b (omega arith) e

  pub size_same : (i : ℕ) → i < place_count → size_at a i ≡ size_at b i
  size_same i h = field_part entry_size (entry_at sizes_at i) header_size a b (omega arith) e

  pub packed_same : (i : ℕ) → i ≤ place_count → packed_by (size_at a) i ≡ packed_by (size_at b) i
  unfolding packed_by
  packed_same zero h = refl
  packed_same (suc i) h = ap₂ (λ (x y : ℕ). x + section_header_size + y) (packed_same i (omega arith)) (size_same i h)

  ordered_from_holds : (m i begin : ℕ) → i + m ≤ place_count → ordered_from a m i begin ≡ ordered_from b m i begin
  unfolding ordered_from
  ordered_from_holds zero i begin h = refl
  ordered_from_holds (suc m) i begin h =
      let o = offset_same i (omega arith) in
      let z = size_same i (omega arith) in
      rw (o, z) (ap (λ (n : ℕ). choose (both (eqb (offset_at b i) begin) (leb (begin + section_header_size + size_at b i) size_limit)) n i)
      (ordered_from_holds m (suc i) (begin + section_header_size + size_at b i) (omega arith)))

  pub ordered_same : places_in_order a ≡ places_in_order b
  ordered_same = ordered_from_holds (used_places a) 0 header_size (omega arith) ∙ ap (λ (n : ℕ). ordered_from b n 0 header_size) used_same

  span_from_holds : (m i begin taken n : ℕ) → i + m ≤ place_count → span_from a m i begin taken n ≡ span_from b m i begin taken n
  unfolding span_from
  span_from_holds zero i begin taken n h = refl
  span_from_holds (suc m) i begin taken n h =
      let o = offset_same i (omega arith) in
      let z = size_same i (omega arith) in
      rw (o, z) (ap (λ (r : Span). choose (not (eqb (offset_at b i) begin)) (none_for i n)
      (choose (ltb size_limit (begin + section_header_size + size_at b i)) (none_for i n)
      (choose (ltb taken (begin + section_header_size)) (none_for i (min n (begin + section_header_size - taken)))
      (choose (ltb taken (begin + section_header_size + size_at b i)) (data_for i (min n (begin + section_header_size + size_at b i - taken))) r))))
      (span_from_holds m (suc i) (begin + section_header_size + size_at b i) taken n (omega arith)))

  pub span_same : (taken n : ℕ) → span_from a (used_places a) 0 header_size taken n ≡ span_from b (used_places b) 0 header_size taken n
  span_same taken n = span_from_holds (used_places a) 0 header_size taken n (omega arith) ∙ ap (λ (k : ℕ). span_from b k 0 header_size taken n) used_same
