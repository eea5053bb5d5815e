use Prim.Native.Nat.{ℕ, ◌+◌, ◌-◌, ◌*◌, ◌≤◌}
use mathlib.Core.Path.{◌≡◌, refl, ap, ap₂, ◌∙◌}
use native.Mathlib.Omega.{arith}
use lib.ListN.{length, take, drop}
use Rattle.octets.specs.Over.{over}
use Rattle.octets.proofs.Over.{length_over}
use Rattle.eif.specs.Numbers.{place_count}
use Rattle.eif.specs.Layout.{section_header_size, offset_at}
use Rattle.eif_reader.proofs.Headers.{gathered_next, gathered_same}
use Rattle.eif_reader.proofs.gather.Goals as goal
use Rattle.eif_reader.proofs.gather.Goals.{After-used-count, then-offset-last, else-offset-last}

-- `eif_reader::gather` meets its contract: each turn writes the header of one section after those gathered before, and leaves
-- them as they are. The measure is how many places are left. Assumes nothing.
pub returns-then-image-lt-SIZE : goal.returns-then-image-lt-SIZE
returns-then-image-lt-SIZE c = λ i h l. absurd (omega arith)

pub loop-i-preserved : goal.loop-i-preserved
loop-i-preserved c = let l = c.loop-i in
    let u = (goal.at.loop-i-preserved c).After-used-count in
    let s = u.args.image.now in
    let few : u.used-count.result ≤ place_count = rw u.used-count.ensures (omega arith) in
    let offset = c.offset_at-offset.ensures in
    elim c.if-offset-last.branch [
      | then-offset-last w ↦
          let n : c.offset_at-offset.result + section_header_size - c.offset_at-offset.result ≡ section_header_size = omega arith in
          let e : c.if-offset-last.headers ≡ over l.headers (section_header_size * l.i) (take section_header_size (drop (offset_at s l.i) s)) =
          w.headers-is ∙ w.copy.ensures ∙ ap₂ (λ (m at : ℕ). over l.headers (section_header_size * l.i) (take m (drop at s))) n offset in
          (omega arith, ap length e ∙ length_over _ _ _ ∙ l.invariant.1, gathered_next s l.headers c.if-offset-last.headers l.i l.invariant.1 (omega (arith, few)) l.invariant.2 (omega (arith, w.if-offset-last.true)) e)
      | else-offset-last w ↦ (omega arith, ap length w.headers-is ∙ l.invariant.1, gathered_same s l.headers c.if-offset-last.headers l.i l.invariant.1 (omega (arith, few)) l.invariant.2 (omega (arith, w.if-offset-last.false)) w.headers-is)
    ]

pub returns : goal.returns
returns c = let u = (goal.at.returns c).After-used-count in
    λ i h l. c.loop-i.invariant.2 i (omega (arith, u.used-count.ensures)) l

pub loop-i-init : goal.loop-i-init
loop-i-init c = (omega arith, refl, λ i h l. absurd (omega arith))

pub overflow_cast-i : goal.overflow_cast-i
overflow_cast-i c = let e = c.used-count.ensures in omega arith

pub overflow_mul-i : goal.overflow_mul-i
overflow_mul-i c = let e = c.used-count.ensures in omega arith

pub overflow_add-i : goal.overflow_add-i
overflow_add-i c = let e = c.used-count.ensures in omega arith
