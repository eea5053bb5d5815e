use Prim.Native.Nat.{ℕ, suc, ◌+◌, ◌-◌, ◌<◌}
use mathlib.Core.Path.{◌≡◌, refl, ap, sym, ◌∙◌}
use mathlib.Core.List.{List}
use native.Mathlib.Omega.{arith}
use native.Mathlib.Nat.{sub-zero}
use lib.ListN.{set, replicate, length-set, length-replicate}
use Rattle.octets.specs.Over.{over}
use Rattle.octets.proofs.Over.{over_end}
use Rattle.assembler_step.proofs.clear.Goals as goal

-- `assembler_step::clear` meets its contract: after each store, the zeros left over the marks as they stand give all zeros over the
-- first marks. Assumes nothing.
-- one more mark is cleared
step : (d : List ℕ) (n k : ℕ) → k < n → over (set d k 0) (k + 1) (replicate (n - (k + 1)) 0) ≡ over d k (replicate (n - k) 0)
unfolding over
step d n k h =
    let e : n - k ≡ suc (n - (k + 1)) = omega arith in
    sym (ap (λ (m : ℕ). over d k (replicate m 0)) e)

pub loop-k-preserved : goal.loop-k-preserved
loop-k-preserved c = let l = c.loop-k in
    (omega arith, simp length-set l.invariant.1, step l.marks c.args.count l.k (omega arith) ∙ l.invariant.2)

pub returns : goal.returns
returns c = let l = c.loop-k in
    let n = c.args.count in
    sym (over_end l.marks l.k (replicate (n - l.k) 0) (simp length-replicate (omega arith))) ∙ l.invariant.2

pub loop-k-init : goal.loop-k-init
loop-k-init c = (omega arith, refl, rw sub-zero refl)

pub shape_of-marks : goal.shape_of-marks
shape_of-marks c = c.loop-k.invariant.1
