use Prim.Native.Nat.{ℕ, min}
use mathlib.Core.Path.{◌≡◌, refl, ap, ◌∙◌}
use native.Mathlib.Omega.{arith}
use lib.ListN.{length, length-take, take}
use Rattle.octets.specs.Over.{over}
use Rattle.writing.specs.Writing.{data_step, data_bytes}
use Rattle.writing.proofs.write_data.Goals as goal

-- `writing::write_data` meets its contract: the first bytes of the data are copied and checksummed, and both counts go down.
pub returns : goal.returns
unfolding data_step data_bytes
returns c = let a = c.args in
    let n : c.lesser-count.result ≡ min a.state.section_left (min (length a.lent.now) (length a.out.now)) =
    c.lesser-count.ensures ∙ ap (min a.state.section_left) c.lesser.ensures in record { value = rw (c.update.ensures, c.past.ensures, n) refl; out_after = c.copy.ensures ∙ ap (λ (j : ℕ). over a.out.now 0 (take j a.lent.now)) n }

pub slice_bounds-bytes-end : goal.slice_bounds-bytes-end
slice_bounds-bytes-end c = simp length-take (omega arith)
