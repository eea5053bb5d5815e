use Prim.Native.Nat.{ℕ}
use mathlib.Core.Path.{ap, ◌∙◌}
use native.Mathlib.Omega.{arith}
use lib.ListN.{take, length-take}
use Rattle.octets.specs.Bytes.{be_bytes}
use Rattle.octets.specs.Over.{over}
use Rattle.octets.proofs.Lists.{take_min}
use Rattle.eif.specs.Layout.{checksum_at}
use Rattle.eif.specs.Reading.{checksum_of}
use Rattle.eif_checksum.specs.Put.{with_checksum}
use Rattle.eif_checksum.proofs.put.Goals as goal

-- `eif_checksum::put` meets its contract: the checksum is taken of the part that is lent, and put into its place.
-- Assumes nothing.
pub returns : goal.returns
unfolding with_checksum
returns c = let d = c.args.image.now in
    let e = ap (λ (n : ℕ). take n d) c.lesser-end.ensures ∙ take_min c.args.size d in
    c.put_be32.ensures
    ∙ ap (λ (n : ℕ). over d checksum_at (be_bytes 4 n)) (c.checksum-sum.ensures ∙ ap checksum_of e)

pub slice_bounds-checksum-end-2 : goal.slice_bounds-checksum-end-2
slice_bounds-checksum-end-2 c = simp length-take (omega arith)
