use Prim.Native.Nat.{ℕ, ◌+◌, ◌*◌, ◌/◌, ◌%◌, ◌^◌}
use mathlib.Core.Path.{refl, sym, ap, ◌∙◌}
use native.Mathlib.Omega.{arith}
use native.Mathlib.Nat.{add-zero}
use borrow.Author.Rules.{rules}
use lib.ListN.{drop, length-drop, length-set}
use Rattle.octets.specs.ByteOrder.{bytes_of, byte_weight}
use Rattle.octets.proofs.Value.{pow_bytes}
use Rattle.octets.proofs.Over.{over_step, over_end}
use Rattle.octets.proofs.Fields.{length_bytes, byte_at_holds}
use Rattle.octets.proofs.put.Goals as goal

-- `octets::put` meets its contract: after each store, the bytes of `n` that are left over the output as it stands give all of them over
-- the first output. Assumes nothing.
pub loop-k-init : goal.loop-k-init
loop-k-init c = (search rules, refl, rw add-zero refl)

pub loop-k-preserved : goal.loop-k-preserved
loop-k-preserved c = let l = c.loop-k in
    let a = c.args in
    let n = length_bytes a.order a.width a.n in
    let p = ap (λ (i : ℕ). 2 ^ (8 * i)) c.weight-i.ensures.value ∙ pow_bytes (byte_weight a.order a.width l.k) in (
      omega arith,
      simp length-set l.invariant.1,
      over_step l.out (bytes_of a.order a.width a.n) a.at l.k _ (omega arith) (ap (λ (u : ℕ). a.n / u % 256) p ∙ sym (byte_at_holds a.order a.width a.n l.k (omega arith)))
          ∙ l.invariant.2,
    )

pub returns : goal.returns
returns c = let l = c.loop-k in
    let a = c.args in
    let n = length_bytes a.order a.width a.n in
    sym (over_end l.out (a.at + l.k) (drop l.k (bytes_of a.order a.width a.n)) (simp length-drop (omega arith))) ∙ l.invariant.2

pub shape_of-out : goal.shape_of-out
shape_of-out c = c.loop-k.invariant.1
