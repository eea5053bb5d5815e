use Prim.Native.Nat.{ℕ, min}
use mathlib.Core.Path.{◌≡◌, sym, ap, ◌∙◌}
use native.Mathlib.Omega.{arith}
use Rattle.eif.specs.Numbers.{place_count}
use Rattle.eif.specs.Layout.{header_size}
use Rattle.arriving_sections.specs.Span.{none_for, used_places, span_from}
use Rattle.arriving_sections.proofs.Steps.{span_header, span_sections}
use Rattle.arriving_sections.proofs.next.Goals as goal
use Rattle.arriving_sections.proofs.next.Goals.{After-lesser-used}

-- `arriving_sections::next` meets its contract: the rest of the file's header, or the walk over the sections.
pub returns-then-taken : goal.returns-then-taken
returns-then-taken c = let a = c.args in
    c.none.ensures ∙ ap (none_for 0) c.lesser.ensures ∙ sym (span_header a.state a.length (omega arith))

pub returns : goal.returns
returns c = let l = (goal.at.returns c).After-lesser-used in
    let a = l.args in
    let k : l.lesser-used.result ≡ used_places a.state.header = l.lesser-used.ensures ∙ ap (λ (j : ℕ). min j place_count) l.be16.ensures in
    c.walk.ensures ∙ ap (λ (j : ℕ). span_from a.state.header j 0 header_size a.state.taken a.length) k
    ∙ sym (span_sections a.state a.length (omega arith))
