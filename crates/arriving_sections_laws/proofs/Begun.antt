-- Sections in order whose own headers have arrived: their data is short, and their types are in the state and do not change.
use Prim.Native.Nat.{ℕ, ◌+◌, ◌*◌, ◌<◌, ◌≤◌}
use mathlib.Core.Path.{◌≡◌, sym, ap, ◌∙◌}
use mathlib.Core.List.{List, ◌++◌}
use mathlib.Core.Logic.{⊎_elim}
use native.Mathlib.Omega.{arith}
use lib.ListN.{length, drop, length-take}
use lib.Seq.{take_all, take-append-le}
use Rattle.octets.specs.Bytes.{field}
use Rattle.octets.proofs.Logic.{le_or_lt}
use Rattle.octets.proofs.Value.{field_drop0}
use Rattle.eif.specs.Numbers.{place_count, size_limit}
use Rattle.eif.specs.Layout.{header_size, section_header_size, view_of, offset_at, kind_at, size_at}
use Rattle.eif_lemmas.proofs.Agree as agree
use Rattle.eif_judge.proofs.Kept.{field_part}
use Rattle.arriving.specs.State.{padded, headers_of, count_limit, kept_of, state_of}
use Rattle.arriving_laws.proofs.Answer.{owns}
use Rattle.arriving_sections.specs.Span.{kept_kind, used_places}
use Rattle.arriving_sections_laws.specs.Given.{places_in_order, data_so_far}
use Rattle.arriving_sections_laws.proofs.Order.{packed, packed_suc, packed_first, packed_le, ordered_most}
use Rattle.arriving_sections_laws.proofs.Heads.{offset_same}
use Rattle.arriving_sections_laws.proofs.Growth.{few_ordered, placed, data_in_holds, data_none}

-- no section has more data than the longest image
pub data_few : (s : List ℕ) (i : ℕ) → length (data_so_far s i) ≤ size_limit
data_few s i =
    ⊎_elim
    (λ (g : places_in_order s ≤ i). rw (data_none s i g) (omega arith))
    (λ (g : i < places_in_order s).
    let z = (placed s i g).1 in
    rw (data_in_holds s i g, length-take (size_at s i) (drop (packed s i + section_header_size) s)) (omega (arith, packed_suc s i)))
    (le_or_lt (places_in_order s) i)

-- ---- a section in order whose own header has arrived

pub record HasBegun (s : List ℕ) (i : ℕ) : Type 0 where
  pub order : i < places_in_order s
  pub own : packed s i + section_header_size ≤ length s

module _ (s : List ℕ) where
  -- the file's header has arrived
  pub begun_whole : (i : ℕ) → HasBegun s i → header_size ≤ length s
  begun_whole i k = let f = packed_le s {i = 0} {j = i} (omega arith) in omega (arith, packed_first s, k.own)

  pub begun_before : (i j : ℕ) → j ≤ i → HasBegun s i → HasBegun s j
  begun_before i j h k =
      let q = packed_le s h in
      record { order = omega (arith, k.order); own = omega (arith, k.own) }

  pub begun_place : (i : ℕ) → HasBegun s i → i < place_count
  begun_place i k = omega (arith, few_ordered s, k.order)

  -- the type of such a section does not change
  pub kind_stays : (p : List ℕ) (i : ℕ) → HasBegun s i → kind_at (s ++ p) i ≡ kind_at s i
  kind_stays p i k =
      let o : offset_at (s ++ p) i ≡ offset_at s i = offset_same (s ++ p) s (take-append-le header_size s p (begun_whole i k)) i (begun_place i k) in
      ap (λ (at : ℕ). field 2 at (s ++ p)) o
      ∙ field_part 2 (offset_at s i) (length s) (s ++ p) s (omega (arith, (placed s i k.order).0, k.own)) (take-append-le (length s) s p (omega arith))

  -- the state contains the type of such a section
  module _ (counted : length s ≤ count_limit) where
    headers_are : (state_of s).headers ≡ headers_of (padded header_size s) s
    unfolding state_of kept_of
    headers_are = ap (λ (t : List ℕ). headers_of (padded header_size t) t) (take_all count_limit s counted)

    pub state_kind : (i : ℕ) → HasBegun s i → kept_kind (state_of s).headers i ≡ kind_at s i
    state_kind i k =
        let f = packed_le s {i = 0} {j = i} (omega arith) in
        let o = (placed s i k.order).0 in
        let u = ordered_most s (used_places s) 0 header_size in
        let l = k.order in
        let w = k.own in
        let lies : agree.Lies (view_of s) i =
        record { counted = omega arith; place = omega arith; starts = omega (arith, packed_first s); ends = omega arith } in
        ap (λ (t : List ℕ). field 2 (section_header_size * i) t) headers_are
        ∙ field_drop0 2 (section_header_size * i) (headers_of (padded header_size s) s)
        ∙ field_part 2 0 section_header_size (drop (section_header_size * i) (headers_of (padded header_size s) s)) (drop (offset_at s i) s) (omega arith) (owns s i lies)
        ∙ sym (field_drop0 2 (offset_at s i) s)
