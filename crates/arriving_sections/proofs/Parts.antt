-- A loop that takes a piece part by part computes `part_by_part`.
use Prim.Native.Nat.{ℕ, zero, suc, ◌+◌, ◌-◌, ◌<◌, ◌≤◌}
use mathlib.Core.Path.{◌≡◌, refl, sym, ap, ap₂, ◌∙◌}
use mathlib.Core.List.{List, [], ◌∷◌}
use native.Mathlib.Omega.{arith}
use lib.ListN.{length, take, drop, length-drop}
use lib.Seq.{drop-drop}
use Rattle.arriving.specs.declared.Arriving.{Arriving}
use Rattle.arriving_sections.specs.Span.{span_of}
use Rattle.arriving_sections.specs.Parts.{in_parts, part_by_part}
use Rattle.arriving_sections.specs.declared.Span.{Span}
use Rattle.arriving_sections.proofs.Bounds.{span_some, span_few}

-- a part takes at least one of the bytes that are left
pub part_less : (a : Arriving) (b : ℕ) (bs : List ℕ) (n : ℕ) → length (b ∷ bs) ≤ suc n → length (drop (span_of a (length (b ∷ bs))).length (b ∷ bs)) ≤ n
part_less a b bs n h =
    let k = (span_of a (length (b ∷ bs))).length in
    rw (length-drop k (b ∷ bs)) (omega (arith, span_some a (length (b ∷ bs)) (omega arith)))

module _ {S : Type 0} (kept : S → Arriving) (step : S → Span → List ℕ → S) where
  -- allowing more parts than there are bytes changes nothing
  parts_enough : (n k : ℕ) (x : S) (p : List ℕ) → length p ≤ n → length p ≤ k → in_parts kept step n x p ≡ in_parts kept step k x p
  unfolding in_parts
  parts_enough zero zero x p h g = refl
  parts_enough zero (suc k) x [] h g = refl
  parts_enough zero (suc k) x (b ∷ bs) h g = absurd (omega arith)
  parts_enough (suc n) zero x [] h g = refl
  parts_enough (suc n) zero x (b ∷ bs) h g = absurd (omega arith)
  parts_enough (suc n) (suc k) x [] h g = refl
  parts_enough (suc n) (suc k) x (b ∷ bs) h g =
      let span : Span = span_of (kept x) (length (b ∷ bs)) in
      parts_enough n k (step x span (take span.length (b ∷ bs))) (drop span.length (b ∷ bs)) (part_less (kept x) b bs n h) (part_less (kept x) b bs k g)

  pub parts_none : (x : S) (p : List ℕ) → length p ≡ 0 → part_by_part kept step x p ≡ x
  unfolding in_parts
  parts_none x [] h = refl
  parts_none x (b ∷ bs) h = absurd (omega arith)

  parts_next : (x : S) (p : List ℕ) → 0 < length p
      → part_by_part kept step x p
      ≡ part_by_part kept step (step x (span_of (kept x) (length p)) (take (span_of (kept x) (length p)).length p)) (drop (span_of (kept x) (length p)).length p)
  unfolding in_parts
  parts_next x [] h = absurd (omega arith)
  parts_next x (b ∷ bs) h =
      let span : Span = span_of (kept x) (length (b ∷ bs)) in
      let rest = drop span.length (b ∷ bs) in
      parts_enough (length bs) (length rest) (step x span (take span.length (b ∷ bs))) rest (part_less (kept x) b bs (length bs) (omega arith)) (omega arith)

  -- one turn of the loop, at a position in the piece
  module _ (x : S) (piece : List ℕ) (at : ℕ) (left : at < length piece) {span : Span} (is : span ≡ span_of (kept x) (length piece - at)) where
    pub parts_step : {y : S} → y ≡ step x span (take (at + span.length - at) (drop at piece))
        → part_by_part kept step y (drop (at + span.length) piece) ≡ part_by_part kept step x (drop at piece)
    parts_step {y} e =
        let l = length-drop at piece in
        let k : at + span.length - at ≡ span.length = omega arith in
        let s : span ≡ span_of (kept x) (length (drop at piece)) = is ∙ ap (span_of (kept x)) (sym l) in
        ap₂ (λ (z : S) (p : List ℕ). part_by_part kept step z p)
        (e ∙ ap (λ (j : ℕ). step x span (take j (drop at piece))) k) (sym (drop-drop span.length at piece))
        ∙ ap (λ (r : Span). part_by_part kept step (step x r (take r.length (drop at piece))) (drop r.length (drop at piece))) s
        ∙ sym (parts_next x (drop at piece) (omega arith))

-- a part has at least one byte, and ends inside the piece
module _ (a : Arriving) (n : ℕ) (left : 0 < n) {span : Span} (is : span ≡ span_of a n) where
  pub part_fits : span.length ≤ n
  part_fits = let e = ap (λ (r : Span). r.length) is in omega (arith, span_few a n)

  pub part_least : 0 < span.length
  part_least = let e = ap (λ (r : Span). r.length) is in omega (arith, span_some a n left)
