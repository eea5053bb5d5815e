-- The sections of a plain image with the data taken so far: the data of the last section grows, and the sections after it have none.
use Prim.Native.Nat.{ℕ, zero, suc, ◌+◌, ◌-◌, ◌*◌, ◌<◌, ◌≤◌}
use mathlib.Core.Path.{◌≡◌, refl, sym, ap, ap₂, ◌∙◌}
use mathlib.Core.List.{List, [], ◌++◌, append_assoc, append-nil}
use native.Mathlib.Omega.{arith}
use native.Mathlib.Nat.{add-zero}
use lib.ListN.{length, take, drop, length-append, length-take, length-drop, drop_of_length-le}
use lib.Seq.{take-nil, take_all, take-append-le, drop-append-le}
use Rattle.eif.specs.Layout.{section_header_size}
use Rattle.eif.specs.Table.{join_from}
use Rattle.eif.specs.Plan.{place_at, planned_size, data_before, piece_at, section_header, section_bytes}
use Rattle.eif.specs.declared.Place.{Place}
use Rattle.plain_laws.proofs.Shape.{before_le, before_suc, before_zero, length_section_header}
use Rattle.writing.specs.Writing.{own_headers}

-- ---- lists given by place, joined

pub join_zero : (f : ℕ → List ℕ) → join_from f 0 0 ≡ []
unfolding join_from
join_zero f = refl

pub join_add : (f : ℕ → List ℕ) (m n i : ℕ) → join_from f (m + n) i ≡ join_from f m i ++ join_from f n (i + m)
unfolding join_from
join_add f zero n i = let e : i ≡ i + 0 = sym (add-zero i) in let z : 0 + n ≡ n = omega arith in ap₂ (λ (x y : ℕ). join_from f x y) z e
join_add f (suc m) n i =
    let e : suc i + m ≡ i + suc m = omega arith in
    let z : suc m + n ≡ suc (m + n) = omega arith in
    ap (λ (k : ℕ). join_from f k i) z
    ∙ ap (λ (x : List ℕ). f i ++ x) (join_add f m n (suc i) ∙ ap (λ (k : ℕ). join_from f m (suc i) ++ join_from f n k) e)
    ∙ sym (append_assoc (f i) (join_from f m (suc i)) (join_from f n (i + suc m)))

-- all but the last, and the last
pub join_last : (f : ℕ → List ℕ) (m : ℕ) → join_from f (suc m) 0 ≡ join_from f m 0 ++ f m
unfolding join_from
join_last f m =
    let e : suc m ≡ m + 1 = omega arith in
    let z : 0 + m ≡ m = omega arith in
    ap (λ (k : ℕ). join_from f k 0) e ∙ join_add f m 1 0 ∙ ap (λ (x : List ℕ). join_from f m 0 ++ x) (append-nil (f (0 + m)) ∙ ap f z)

pub join_alike : (f g : ℕ → List ℕ) (n i : ℕ) → ((j : ℕ) → i ≤ j → j < i + n → f j ≡ g j) → join_from f n i ≡ join_from g n i
unfolding join_from
join_alike f g zero i h = refl
join_alike f g (suc n) i h = ap₂ (λ (x y : List ℕ). x ++ y) (h i (omega arith) (omega arith)) (join_alike f g n (suc i) (λ j l k. h j (omega arith) (omega arith)))

-- ---- the sections, with data taken up to within section m

module _ (l : List Place) where
  -- a section whose data lies before the end of the data has it still when more data comes
  piece_kept : (d x : List ℕ) (i : ℕ) → data_before l (suc i) ≤ length d → piece_at l (d ++ x) i ≡ piece_at l d i
  piece_kept d x i h =
      let b = before_suc l i in
      let s : data_before l i ≤ length d = omega arith in
      let n : planned_size l i ≤ length (drop (data_before l i) d) = rw length-drop (omega arith) in
      ap (take (planned_size l i)) (drop-append-le (data_before l i) d x s) ∙ take-append-le (planned_size l i) (drop (data_before l i) d) x n

  -- a section that starts at or after the end of the data has none
  pub piece_none : (d : List ℕ) (i : ℕ) → length d ≤ data_before l i → piece_at l d i ≡ []
  piece_none d i h = ap (take (planned_size l i)) (drop_of_length-le d h) ∙ take-nil (planned_size l i)

  module _ (m : ℕ) (d : List ℕ) (start : data_before l m ≤ length d) where
    -- the last section has all data from its start on
    piece_end : length d ≤ data_before l (suc m) → piece_at l d m ≡ drop (data_before l m) d
    piece_end h =
        let b = before_suc l m in
        let n : length (drop (data_before l m) d) ≤ planned_size l m = rw length-drop (omega arith) in
        take_all (planned_size l m) (drop (data_before l m) d) n

    -- sections that have all their data stay as they are
    pub sections_kept : (x : List ℕ) → join_from (section_bytes l (d ++ x)) m 0 ≡ join_from (section_bytes l d) m 0
    sections_kept x =
        join_alike (section_bytes l (d ++ x)) (section_bytes l d) m 0
        (λ j h k. ap (λ (q : List ℕ). section_header (place_at l j) ++ q) (piece_kept d x j (let b = before_le l (suc j) m (omega arith) in omega arith)))

    -- more data of the last section goes to the end
    pub sections_more : (x : List ℕ) → length (d ++ x) ≤ data_before l (suc m)
        → join_from (section_bytes l (d ++ x)) (suc m) 0 ≡ join_from (section_bytes l d) (suc m) 0 ++ x
    sections_more x h =
        let long = length-append d x in
        let whole : length d ≤ data_before l (suc m) = omega arith in
        let piece : piece_at l (d ++ x) m ≡ piece_at l d m ++ x =
        let more : data_before l m ≤ length (d ++ x) = omega arith in
        take_all (planned_size l m) (drop (data_before l m) (d ++ x)) (let b = before_suc l m in rw length-drop (omega arith))
        ∙ drop-append-le (data_before l m) d x start
        ∙ ap (λ (q : List ℕ). q ++ x) (sym (piece_end whole)) in
        join_last (section_bytes l (d ++ x)) m
        ∙ ap₂ (λ (p q : List ℕ). p ++ (section_header (place_at l m) ++ q)) (sections_kept x) piece
        ∙ ap (λ (q : List ℕ). join_from (section_bytes l d) m 0 ++ q) (sym (append_assoc (section_header (place_at l m)) (piece_at l d m) x))
        ∙ sym (append_assoc (join_from (section_bytes l d) m 0) (section_bytes l d m) x)
        ∙ ap (λ (q : List ℕ). q ++ x) (sym (join_last (section_bytes l d) m))

  -- the own header of a section that has no data yet goes to the end
  pub sections_begun : (m : ℕ) (d : List ℕ) → length d ≡ data_before l m
      → join_from (section_bytes l d) (suc m) 0 ≡ join_from (section_bytes l d) m 0 ++ section_header (place_at l m)
  sections_begun m d e =
      join_last (section_bytes l d) m
      ∙ ap (λ (q : List ℕ). join_from (section_bytes l d) m 0 ++ (section_header (place_at l m) ++ q)) (piece_none d m (omega arith))
      ∙ ap (λ (q : List ℕ). join_from (section_bytes l d) m 0 ++ q) (append-nil (section_header (place_at l m)))

  -- ---- lengths

  -- sections that have all their data
  length_full : (d : List ℕ) (m : ℕ) → data_before l m ≤ length d → length (join_from (section_bytes l d) m 0) ≡ section_header_size * m + data_before l m
  unfolding join_from
  length_full d zero h = let z = before_zero l in omega arith
  length_full d (suc m) h =
      let b = before_suc l m in
      let r = length_full d m (omega arith) in
      let p : length (piece_at l d m) ≡ planned_size l m = simp (length-take, length-drop) (omega arith) in
      ap length (join_last (section_bytes l d) m)
      ∙ length-append (join_from (section_bytes l d) m 0) (section_bytes l d m)
      ∙ ap (λ (n : ℕ). length (join_from (section_bytes l d) m 0) + n) (length-append (section_header (place_at l m)) (piece_at l d m))
      ∙ (let q = length_section_header (place_at l m) in omega arith)

  -- the first k sections, with data taken up to within the last of them
  pub length_sections_so_far : (d : List ℕ) (k : ℕ) → data_before l (k - 1) ≤ length d → length d ≤ data_before l k
      → length (join_from (section_bytes l d) k 0) ≡ section_header_size * k + length d
  unfolding join_from
  length_sections_so_far d zero a b = let z = before_zero l in omega arith
  length_sections_so_far d (suc m) a b =
      let z : suc m - 1 ≡ m = omega arith in
      let start : data_before l m ≤ length d = let e = ap (data_before l) z in omega arith in
      let r = length_full d m start in
      let p : length (piece_at l d m) ≡ length d - data_before l m = ap length (piece_end m d start b) ∙ length-drop (data_before l m) d in
      ap length (join_last (section_bytes l d) m)
      ∙ length-append (join_from (section_bytes l d) m 0) (section_bytes l d m)
      ∙ ap (λ (n : ℕ). length (join_from (section_bytes l d) m 0) + n) (length-append (section_header (place_at l m)) (piece_at l d m))
      ∙ (let q = length_section_header (place_at l m) in omega arith)

  -- ---- sections without data

  pub sections_rest : (d : List ℕ) (k n : ℕ) → length d ≤ data_before l k
      → join_from (section_bytes l d) (k + n) 0 ≡ join_from (section_bytes l d) k 0 ++ own_headers l n k
  sections_rest d k n h =
      let z : 0 + k ≡ k = omega arith in
      join_add (section_bytes l d) k n 0
      ∙ ap (λ (i : ℕ). join_from (section_bytes l d) k 0 ++ join_from (section_bytes l d) n i) z
      ∙ ap (λ (q : List ℕ). join_from (section_bytes l d) k 0 ++ q)
      (join_alike (section_bytes l d) (λ j. section_header (place_at l j)) n k
      (λ j a b.
      ap (λ (q : List ℕ). section_header (place_at l j) ++ q) (piece_none d j (let c = before_le l k j a in omega arith)) ∙ append-nil (section_header (place_at l j))))
