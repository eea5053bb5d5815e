use Prim.Native.Nat.{ℕ, suc}
use mathlib.Core.Path.{◌≡◌, refl, sym, ap, ap₂, ◌∙◌}
use mathlib.Core.List.{List}
use native.Mathlib.Omega.{arith}
use borrow.Author.Rules.{rules}
use native.Mathlib.Numerals.{add-one}
use lib.ListN.{length, drop, get_or}
use Rattle.octets.specs.Over.{over}
use Rattle.octets.proofs.Over.{length_over}
use Rattle.octets.proofs.Each.{joined_over, joined_done}
use Rattle.cose.specs.Cbor.{unsigned, head_bytes, numbers_bytes}
use Rattle.cose.specs.Sign1.{register_size}
use Rattle.cose_lemmas.proofs.Head.{numbers_size, size_end}
use Rattle.cose_writer.proofs.put_values.Goals as goal

-- `cose_writer::put_values` meets its contract: what is left of the numbers, written from the position reached, makes the whole. Assumes nothing.
pub loop-i-preserved : goal.loop-i-preserved
loop-i-preserved c = let p = c.put_small-at.ensures in
    let l = c.loop-i in
    let v = c.args.value in
    let size : length v ≡ register_size = search rules in
    let e = numbers_size v l.i (omega arith) in
    rw add-one (
      omega arith,
      omega arith,
      ap length p.out_after ∙ length_over l.out l.at (head_bytes unsigned (get_or v l.i 0)) ∙ l.invariant.2,
      omega arith,
      ap₂ (λ (d : List ℕ) (n : ℕ). over d n (numbers_bytes (drop (suc l.i) v))) p.out_after p.value
          ∙ joined_over (head_bytes unsigned) v 0 l.i (omega arith) l.out l.at ∙ l.invariant.4,
    )

pub returns : goal.returns
returns c = let l = c.loop-i in
    let v = c.args.value in
    let size : length v ≡ register_size = search rules in
    let e = size_end v l.i (omega arith) in
    record { value = omega arith; upper_bound = omega arith; out_after = sym (joined_done (head_bytes unsigned) v 0 l.i (omega arith) l.out l.at) ∙ l.invariant.4 }

pub loop-i-init : goal.loop-i-init
loop-i-init c = (omega arith, omega arith, refl, refl, refl)

pub shape_of-out : goal.shape_of-out
shape_of-out c = c.loop-i.invariant.2
