use Prim.Native.Nat.{ℕ, ◌+◌, ◌-◌, ◌*◌}
use mathlib.Core.Path.{◌≡◌, refl, sym, ap, ◌∙◌}
use native.Mathlib.Omega.{arith}
use lib.ListN.{length}
use Rattle.octets.proofs.Over.{length_over}
use Rattle.eif.specs.Numbers.{place_count}
use Rattle.eif.specs.Layout.{section_header_size}
use Rattle.arriving.specs.Calls.{kept_over, headers_over}
use Rattle.arriving.proofs.Steps.{headers_step}
use Rattle.arriving.proofs.keep_headers.Goals as goal
use Rattle.arriving.proofs.keep_headers.Goals.{After-kept_from}

-- `arriving::keep_headers` meets its contract: what is left to do from place i on, done to what is kept so far, is all of it. The measure is how
-- many places are left. Assumes nothing.
pub loop-i-preserved : goal.loop-i-preserved
unfolding kept_over
loop-i-preserved c = let k = (goal.at.loop-i-preserved c).After-kept_from in
    let l = k.loop-i in
    let a = k.args in
    let after = c.keep_header.ensures ∙ ap (λ (p : ℕ). kept_over l.headers (section_header_size * l.i) p a.taken a.piece.now) k.kept_from.ensures in (
      omega arith,
      ap length after ∙ length_over _ _ _ ∙ l.invariant.1,
      ap (headers_over a.header.now a.taken a.piece.now (place_count - (l.i + 1)) (l.i + 1)) after
          ∙ headers_step a.header.now a.piece.now l.headers a.taken l.i (omega arith) ∙ l.invariant.2,
    )

pub shape_of-headers : goal.shape_of-headers
shape_of-headers c = c.loop-i.invariant.1 ∙ sym c.requires

pub returns : goal.returns
unfolding headers_over
returns c = let l = c.loop-i in
    let z : place_count - l.i ≡ 0 = omega arith in
    rw z at l.invariant.2

pub loop-i-init : goal.loop-i-init
loop-i-init c = (omega arith, c.requires, refl)
