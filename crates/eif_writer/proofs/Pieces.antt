-- What is left to write of the sections.
-- Assumes nothing.
use Prim.Native.Nat.{ℕ, suc, ◌+◌, ◌-◌, ◌<◌, ◌≤◌}
use mathlib.Core.Path.{◌≡◌, refl, sym, ap, ◌∙◌}
use mathlib.Core.List.{List, ◌++◌, append_assoc, append-nil}
use native.Mathlib.Omega.{arith}
use lib.ListN.{length, replicate}
use Rattle.octets.specs.Bytes.{be_bytes}
use Rattle.octets.specs.Over.{over}
use Rattle.octets.proofs.Over.{over_joined, over_row}
use Rattle.eif.specs.Numbers.{size_limit}
use Rattle.eif.specs.Layout.{section_header_size}
use Rattle.eif.specs.Plan.{place_at, planned_size, packed_at, data_before, piece_at, section_header, section_bytes}
use Rattle.eif.specs.declared.Place.{Place}
use Rattle.eif.specs.Table.{join_from}
use Rattle.plain_laws.proofs.Shape.{packed_le, packed_suc, before_le, before_suc, length_section_header, length_piece}
use Rattle.eif_lemmas.proofs.Table.{join_next}

-- ---- bytes that fill an array

pub over_whole : (n : ℕ) (x : List ℕ) → length x ≡ n → over (replicate n 0) 0 x ≡ x
over_whole n x e =
    let z : n - length x ≡ 0 = omega arith in
    over_row n 0 x (omega arith) ∙ ap (λ (k : ℕ). x ++ replicate {A = ℕ} k 0) z ∙ append-nil x

pub whole_section_header : (x : Place) {b c d : List ℕ} → b ≡ over (replicate section_header_size 0) 0 (be_bytes 2 x.kind) → c ≡ over b 2 (be_bytes 2 x.flags)
    → d ≡ over c 4 (be_bytes 8 x.length.0) → d ≡ section_header x
unfolding section_header
whole_section_header x e f g =
    over_joined (replicate section_header_size 0) 0 (be_bytes 2 x.kind) (be_bytes 2 x.flags ++ be_bytes 8 x.length.0) {m = 2} e
    (over_joined _ 2 (be_bytes 2 x.flags) (be_bytes 8 x.length.0) {m = 4} f g refl) refl
    ∙ over_whole section_header_size (section_header x) (length_section_header x)

-- ---- the sections

module _ (l : List Place) (count i : ℕ) (h : i < count) where
  -- a section within the count ends within the limit
  pub ends_inside : packed_at l count ≤ size_limit → packed_at l i + section_header_size + planned_size l i ≤ size_limit
  ends_inside small = let a = packed_le l (suc i) count h in let b = packed_suc (planned_size l) i in omega arith

  -- and takes data that there is
  pub data_inside : (d : List ℕ) → length d ≡ data_before l count → data_before l i + planned_size l i ≤ length d
  data_inside d sized = let a = before_le l (suc i) count h in let b = before_suc l i in omega arith

  -- the section's own header, its data, and what follows
  pub section_over : (d : List ℕ) → length d ≡ data_before l count → (o x y : List ℕ) (at : ℕ) → x ≡ over o at (section_header (place_at l i))
      → y ≡ over x (at + section_header_size) (piece_at l d i)
      → over y (at + section_header_size + planned_size l i) (join_from (section_bytes l d) (count - suc i) (suc i)) ≡ over o at (join_from (section_bytes l d) (count - i) i)
  section_over d sized o x y at e f =
      let p = piece_at l d i in
      let r = join_from (section_bytes l d) (count - suc i) (suc i) in
      let a : at + section_header_size + length p ≡ at + section_header_size + planned_size l i = ap (λ (m : ℕ). at + section_header_size + m) (length_piece l d count sized i h) in
      let b : at + length (section_header (place_at l i)) ≡ at + section_header_size = ap (λ (m : ℕ). at + m) (length_section_header (place_at l i)) in
      over_joined o at (section_header (place_at l i)) (p ++ r) e (over_joined x (at + section_header_size) p r f refl a) b
      ∙ ap (over o at) (sym (append_assoc (section_header (place_at l i)) p r) ∙ sym (join_next (section_bytes l d) count i h))

pub sections_done : (l : List Place) (d : List ℕ) (i n : ℕ) → n ≡ 0 → (o : List ℕ) (at : ℕ) → over o at (join_from (section_bytes l d) n i) ≡ o
unfolding over join_from
sections_done l d i n e o at = ap (λ (m : ℕ). over o at (join_from (section_bytes l d) m i)) e
