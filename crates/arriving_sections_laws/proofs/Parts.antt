-- A piece taken part by part by a caller whose state is a function of the bytes taken.
use Prim.Native.Nat.{ℕ, zero, suc, ◌≤◌}
use mathlib.Core.Path.{◌≡◌, sym, ap, ◌∙◌}
use mathlib.Core.List.{List, [], ◌∷◌, ◌++◌, append_assoc, append-nil}
use native.Mathlib.Omega.{arith}
use lib.ListN.{length, take, drop, length-take, take-append-drop}
use Rattle.octets.proofs.Lists.{none_of}
use Rattle.arriving.specs.State.{state_of}
use Rattle.arriving.specs.declared.Arriving.{Arriving}
use Rattle.arriving_sections.specs.Span.{span_of}
use Rattle.arriving_sections.specs.Parts.{in_parts, part_by_part}
use Rattle.arriving_sections.specs.declared.Span.{Span}
use Rattle.arriving_sections.proofs.Parts.{part_less}

module _ {S : Type 0} (kept : S → Arriving) (step : S → Span → List ℕ → S) (of : List ℕ → S) (keeps : (s : List ℕ) → kept (of s) ≡ state_of s)
    (grows : (s p : List ℕ) (n : ℕ) → length p ≤ (span_of (state_of s) n).length → step (of s) (span_of (state_of s) n) p ≡ of (s ++ p)) where
  from : (k : ℕ) (s piece : List ℕ) → length piece ≤ k → in_parts kept step k (of s) piece ≡ of (s ++ piece)
  unfolding in_parts
  from zero s piece h = ap of (sym (ap (λ (l : List ℕ). s ++ l) (none_of piece (omega arith)) ∙ append-nil s))
  from (suc k) s [] h = ap of (sym (append-nil s))
  from (suc k) s (b ∷ bs) h =
      let n = length (b ∷ bs) in
      let span : Span = span_of (state_of s) n in
      let p = take span.length (b ∷ bs) in
      let rest = drop span.length (b ∷ bs) in
      let f : length p ≤ span.length = rw (length-take span.length (b ∷ bs)) (omega arith) in
      ap (λ (a : Arriving). in_parts kept step k (step (of s) (span_of a n) (take (span_of a n).length (b ∷ bs))) (drop (span_of a n).length (b ∷ bs))) (keeps s)
      ∙ ap (λ (x : S). in_parts kept step k x rest) (grows s p n f)
      ∙ from k (s ++ p) rest (part_less (state_of s) b bs k h)
      ∙ ap of (append_assoc s p rest ∙ ap (λ (l : List ℕ). s ++ l) (take-append-drop span.length (b ∷ bs)))

  -- if one part takes the state of some bytes to the state of those bytes and the part, so does a piece
  pub parts_grow : (s piece : List ℕ) → part_by_part kept step (of s) piece ≡ of (s ++ piece)
  parts_grow s piece = from (length piece) s piece (omega arith)
