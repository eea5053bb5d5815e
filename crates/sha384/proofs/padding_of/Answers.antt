use Prim.Native.Nat.{ℕ, ◌+◌, ◌*◌, ◌%◌, ◌^◌}
use mathlib.Core.Path.{ap, ◌∙◌}
use mathlib.Core.List.{List}
use lib.ListN.{length, take}
use Rattle.octets.specs.Bytes.{be_bytes}
use Rattle.octets.specs.Over.{over}
use Rattle.octets.proofs.Over.{length_over}
use Rattle.sha384_block.specs.Fips.{least_padding}
use Rattle.sha384.proofs.Padding.{padding_is}
use Rattle.sha384.proofs.padding_of.Goals as goal

-- `sha384::padding_of` meets its contract: a byte, zeros and two words are the padding. Assumes nothing.
pub returns : goal.returns
returns c = let a = c.args in
    let n = a.total in
    let z = a.zeros in
    let x = c.put_be64.ensures in
    let y = c.put_be64-2.ensures in
    let w = y ∙ ap (λ (l : List ℕ). over l (z + 9) (be_bytes 8 (n * 2 ^ 3 % 2 ^ 64))) x in
    (ap length w ∙ simp length_over, ap (take (z + least_padding)) w ∙ padding_is n z c.requires)
