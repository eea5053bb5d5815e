-- A piece taken in parts, each of bytes that belong together, by a caller of `next` whose state S contains the arriving state.
use Rattle.std.specs.Prelude.{ℕ, zero, suc, List, [], ◌∷◌, length, take, drop}
use Rattle.arriving.specs.declared.Arriving.{Arriving}
use Rattle.arriving_sections.specs.Span.{span_of}
use Rattle.arriving_sections.specs.declared.Span.{Span}

module _ {S : Type 0} (kept : S → Arriving) (step : S → Span → List ℕ → S) where
  -- the state after a piece, in at most n parts
  unfoldable pub in_parts : ℕ → S → List ℕ → S
  in_parts zero x piece = x
  in_parts (suc n) x [] = x
  in_parts (suc n) x (b ∷ bs) =
      let span = span_of (kept x) (length (b ∷ bs)) in
      in_parts n (step x span (take span.length (b ∷ bs))) (drop span.length (b ∷ bs))

  -- the state after a piece; each part has at least one byte
  abbrev pub part_by_part : S → List ℕ → S
  part_by_part x piece = in_parts (length piece) x piece
