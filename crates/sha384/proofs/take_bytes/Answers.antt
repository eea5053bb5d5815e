use Prim.Native.Nat.{ℕ, ◌+◌, ◌-◌}
use mathlib.Core.Path.{◌≡◌, refl, ap, ◌∙◌}
use native.Mathlib.Omega.{arith}
use lib.ListN.{length, take, drop, length-take, length-drop}
use lib.Seq.{drop-length}
use Rattle.sha384.specs.State.{take_bytes}
use Rattle.sha384.proofs.Parts.{used_lt, part_next}
use Rattle.sha384.proofs.take_bytes.Goals as goal

-- `sha384::take_bytes` meets its contract: the bytes left to take, from what is there, give the whole. Assumes nothing.
pub loop-i-init : goal.loop-i-init
loop-i-init c = (omega arith, c.requires, refl)

pub fill-next-requires : goal.fill-next-requires
fill-next-requires c = let l = c.loop-i in
    let s = c.args.s.now in
    let n = c.lesser-size.ensures in
    let e = length-take (l.i + c.lesser-size.result - l.i) (drop l.i s) in
    let d = length-drop l.i s in
    record { part_nonzero = (omega arith, omega arith); k_value = c.constants-k.ensures }

pub loop-i-preserved : goal.loop-i-preserved
loop-i-preserved c = let s = c.args.s.now in
    let l = c.loop-i in
    let n = c.lesser-size in
    let k = n.ensures in
    let size : l.i + n.result - l.i ≡ n.result = omega arith in
    let e = c.fill-next.ensures ∙ ap (λ (j : ℕ). take_bytes l.m (take j (drop l.i s))) size in (
      omega arith,
      rw e (used_lt l.m (take n.result (drop l.i s)) l.invariant.1),
      part_next l.m c.fill-next.result s l.i n.result e ∙ l.invariant.2,
    )

pub returns : goal.returns
unfolding take_bytes
returns c = let l = c.loop-i in
    let s = c.args.s.now in
    let e : l.i ≡ length s = omega arith in
    rw (e, drop-length) at l.invariant.2
