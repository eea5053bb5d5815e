-- The data of listed sections: a section's data as far as it lies in the image, and what is copied of them, one section after the other.
-- Assumes nothing.
use Prim.Native.Nat.{ℕ, suc, ◌+◌, ◌-◌, ◌*◌, ◌<◌, ◌≤◌, min}
use mathlib.Core.Path.{◌≡◌, sym, ap, ap₂, ◌∙◌}
use mathlib.Core.List.{List, [], ◌∷◌, ◌++◌, append-nil}
use mathlib.Core.Logic.{⊎_elim}
use native.Mathlib.Omega.{arith}
use native.Mathlib.Nat.{zero-add, suc-mul}
use native.Mathlib.Numerals.{add-one}
use lib.ListN.{length, get_or, take, drop, length-append, length-drop, length-take, drop_of_length-le}
use lib.Seq.{take-suc, take-add, take-nil}
use borrow.Author.Rules.{part_to_end}
use Rattle.octets.proofs.Lists.{drop_both, take_min, drop_min, joined_append}
use Rattle.octets.specs.Over.{over}
use Rattle.octets.proofs.Logic.{le_or_lt}
use Rattle.octets.proofs.Over.{length_over, over_append, over_out}
use Rattle.eif.specs.Reading.{blank_section, data_of}
use Rattle.eif.specs.Stream.{sections_data}
use Rattle.eif.specs.declared.Section.{Section}

-- as many elements as there are
pub cut : {A : Type 0} (l : List A) (n k : ℕ) → k ≡ min n (length l) → take k l ≡ take n l
cut l n k q = ap (λ (j : ℕ). take j l) q ∙ take_min n l

-- ---- a section's data

pub clipped : (s : List ℕ) (x : Section) (start size : ℕ) → start ≡ min x.position.0 (length s) → size ≡ min x.length.0 (length s - start)
    → take (start + size - start) (drop start s) ≡ data_of s x
clipped s x start size e f =
    let n : start + size - start ≡ size = omega arith in
    ap (λ (k : ℕ). take k (drop start s)) n
    ∙ ⊎_elim
    (λ (h : x.position.0 ≤ length s).
    let p : start ≡ x.position.0 = omega arith in
    ap (λ (k : ℕ). take size (drop k s)) p ∙ cut (drop x.position.0 s) x.length.0 size (simp length-drop (omega arith)))
    (λ (h : length s < x.position.0).
    ap (take size) (drop_of_length-le s {i = start} (omega arith)) ∙ take-nil size
    ∙ sym (ap (take x.length.0) (drop_of_length-le s {i = x.position.0} (omega arith)) ∙ take-nil x.length.0))
    (le_or_lt x.position.0 (length s))

-- ---- one section after the other

joined_one : (s : List ℕ) (x : Section) → sections_data s (x ∷ []) ≡ data_of s x
joined_one s x = append-nil (data_of s x)

module _ (s : List ℕ) (l : List Section) where
  -- the data of the first i sections
  abbrev pub passed : ℕ → List ℕ
  passed i = sections_data s (take i l)

  pub passed_next : (i : ℕ) → i < length l → passed (i + 1) ≡ passed i ++ data_of s (get_or l i blank_section)
  passed_next i h =
      ap (λ (n : ℕ). sections_data s (take n l)) (add-one i) ∙ ap (sections_data s) (take-suc l i blank_section h) ∙ joined_append (data_of s) (take i l) (get_or l i blank_section ∷ [])
      ∙ ap (λ (b : List ℕ). passed i ++ b) (joined_one s (get_or l i blank_section))

  -- fewer sections have no more data
  pub passed_within : (i n : ℕ) → i ≤ n → length (passed i) ≤ length (passed n)
  passed_within i n h =
      let m : n ≡ i + (n - i) = omega arith in
      let e : passed n ≡ passed i ++ sections_data s (take (n - i) (drop i l)) =
      ap (λ (k : ℕ). sections_data s (take k l)) m ∙ ap (sections_data s) (take-add i (n - i) l) ∙ joined_append (data_of s) (take i l) (take (n - i) (drop i l)) in
      omega (arith, ap length e, length-append (passed i) (sections_data s (take (n - i) (drop i l))))

-- ---- what is copied from a position on

-- what is left to pass over, and what is copied, after more data
pub skip_more : (from p d q skip next : ℕ) → q ≡ p + d → skip ≡ from - p → next ≡ skip - d → next ≡ from - q
skip_more from p d q skip next e f g = omega arith

room_more : (room x d : ℕ) → min room (min room x + d) ≡ min room (x + d)
room_more room x d = omega arith

nothing : (room x done : ℕ) → x ≡ 0 → done ≡ min room x → done ≡ 0
nothing room x done e f = omega arith

pub done_more : (room from p d q skip done next : ℕ) → q ≡ p + d → skip ≡ from - p → done ≡ min room (p - from) → next ≡ min room (done + (d - skip)) → next ≡ min room (q - from)
done_more room from p d q skip done next e f g h =
    ⊎_elim
    (λ (k : from ≤ p).
    let z : d - skip ≡ d = omega arith in
    let r : q - from ≡ (p - from) + d = omega arith in
    h ∙ ap₂ (λ (x y : ℕ). min room (x + y)) g z ∙ room_more room (p - from) d ∙ ap (min room) (sym r))
    (λ (k : p < from).
    let z : done ≡ 0 = nothing room (p - from) done (omega arith) g in
    let r : d - skip ≡ q - from = omega arith in
    h ∙ ap₂ (λ (x y : ℕ). min room (x + y)) z r ∙ ap (min room) (zero-add (q - from)))
    (le_or_lt from p)

-- more data: over the output as it stands, from where it ends or, where the output is full, from its end
pub over_more : (o p d : List ℕ) (from skip done : ℕ) → skip ≡ from - length p → done ≡ min (length o) (length p - from)
    → over (over o 0 (drop from p)) done (drop skip d) ≡ over o 0 (drop from (p ++ d))
over_more o p d from skip done e f =
    let e1 : List ℕ = over o 0 (drop from p) in
    let n : length e1 ≡ length o = length_over o 0 (drop from p) in
    let m : length (drop from p) ≡ length p - from = length-drop from p in
    let whole : over o 0 (drop from (p ++ d)) ≡ over e1 (0 + length (drop from p)) (drop skip d) =
    ap (over o 0) (drop_both from p d ∙ ap (λ (k : ℕ). drop from p ++ drop k d) (sym e)) ∙ over_append o 0 (drop from p) (drop skip d) in
    ⊎_elim
    (λ (h : length p - from ≤ length o).
    let z : done ≡ 0 + length (drop from p) = omega arith in
    ap (λ (k : ℕ). over e1 k (drop skip d)) z ∙ sym whole)
    (λ (h : length o < length p - from).
    over_out e1 done (drop skip d) (omega arith) ∙ sym (whole ∙ over_out e1 (0 + length (drop from p)) (drop skip d) (omega arith)))
    (le_or_lt (length p - from) (length o))

-- ---- the length of all of it

pub joined_bound : (s : List ℕ) (l : List Section) (bound : ℕ) → length s ≤ bound → length (sections_data s l) ≤ length l * bound
joined_bound s [] bound h = omega arith
joined_bound s (x ∷ xs) bound h =
    let r = joined_bound s xs bound h in
    let n = length-append (data_of s x) (sections_data s xs) in
    let d : length (data_of s x) ≤ length s = simp (length-take, length-drop) (omega arith) in
    let m : suc (length xs) * bound ≡ length xs * bound + bound = suc-mul (length xs) bound in
    omega arith

-- what is left of data after as much of it as there is, as it is lent, up to its end
pub part_to_rest : (d : List ℕ) (skip passed : ℕ) → passed ≡ min skip (length d) → take (length d - passed) (drop passed d) ≡ drop skip d
part_to_rest d skip passed e = part_to_end d passed ∙ ap (λ (k : ℕ). drop k d) e ∙ drop_min skip d
