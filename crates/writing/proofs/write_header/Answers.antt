use Prim.Native.Nat.{ℕ, ◌+◌, ◌-◌, ◌≤◌, min}
use mathlib.Core.Path.{◌≡◌, refl, ap, ◌∙◌}
use native.Mathlib.Omega.{arith}
use borrow.Author.Rules.{rules}
use lib.ListN.{length, take, drop}
use Rattle.octets.specs.Over.{over}
use Rattle.eif.specs.Layout.{header_size}
use Rattle.writing.specs.Writing.{header_step, header_part}
use Rattle.writing.proofs.write_header.Goals as goal

-- `writing::write_header` meets its contract: the header's bytes from the position reached, as many as there are and there is room for.
pub slice_bounds-copy-end : goal.slice_bounds-copy-end
slice_bounds-copy-end c = let a = c.args in
    let e = c.lesser-count.ensures in
    let size : length a.state.header ≡ header_size = search rules in
    let h : a.state.header_written + c.lesser-count.result ≤ length a.state.header = omega arith in
    search rules

pub returns : goal.returns
unfolding header_step header_part
returns c = let a = c.args in
    let n : c.lesser-count.result ≡ min (header_size - a.state.header_written) (length a.out.now) = c.lesser-count.ensures in
    let m : a.state.header_written + c.lesser-count.result - a.state.header_written ≡ c.lesser-count.result = omega arith in record { value = rw n refl; out_after = c.copy.ensures ∙ ap (λ (j : ℕ). over a.out.now 0 (take j (drop a.state.header_written a.state.header))) (m ∙ n) }
