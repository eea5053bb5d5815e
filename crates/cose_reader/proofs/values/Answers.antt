use Prim.Native.Nat.{ℕ, suc, ◌-◌, ◌≤◌}
use mathlib.Core.Path.{refl, sym, ap, ◌∙◌}
use mathlib.Core.List.{◌++◌}
use native.Mathlib.Omega.{arith}
use native.Mathlib.Numerals.{add-one}
use lib.ListN.{take, set, length-set}
use Rattle.cose.specs.Sign1.{register_size}
use Rattle.cose.specs.Read.{bytes_from, bytes_end}
use Rattle.cose_lemmas.proofs.Numbers.{row_end_step, row_stored, row_end_done, row_done}
use Rattle.cose_reader.proofs.values.Goals as goal

-- `cose_reader::values` meets its contract: the numbers stored and those still to be read make the whole. Assumes nothing.
pub loop-i-preserved : goal.loop-i-preserved
loop-i-preserved c = let l = c.loop-i in
    let s = c.args.s.now in
    let e = c.byte_end-at.ensures in
    let b = c.byte_at in
    let h : suc l.i ≤ register_size = omega arith in
    rw add-one (
      omega arith,
      omega arith,
      length-set l.value l.i b.result ∙ l.invariant.2,
      ap (λ (n : ℕ). take (suc l.i) (set l.value l.i b.result) ++ bytes_from s (register_size - suc l.i) n) e.value
          ∙ row_stored s register_size l.i l.at h l.value (omega arith) b.result b.ensures ∙ l.invariant.3,
      ap (bytes_end s (register_size - suc l.i)) e.value ∙ sym (row_end_step s register_size l.i l.at h) ∙ l.invariant.4,
    )

pub returns : goal.returns
returns c = let l = c.loop-i in
    let s = c.args.s.now in record { value_value = sym (row_done s register_size l.i l.at (omega arith) l.value (omega arith)) ∙ l.invariant.3; end_value = sym (row_end_done s register_size l.i l.at (omega arith)) ∙ l.invariant.4; end_bound = omega arith }

pub loop-i-init : goal.loop-i-init
loop-i-init c = (omega arith, omega arith, refl, refl, refl)
