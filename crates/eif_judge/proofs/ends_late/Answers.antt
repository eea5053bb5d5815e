use Prim.Native.Nat.{◌+◌}
use mathlib.Core.Path.{ap, ◌∙◌}
use native.Mathlib.Omega.{arith}
use lib.Dec.{ltb}
use Rattle.eif.specs.Layout.{section_header_size}
use Rattle.octets.proofs.Logic.{left_over}
use Rattle.eif_judge.proofs.ends_late.Goals as goal

-- `eif_judge::ends_late` meets its contract: the header is left out on both sides. Assumes nothing.
pub returns : goal.returns
returns c = let a = c.args in
    c.passes.ensures ∙ left_over a.size section_header_size (a.offset + a.length) c.requires ∙ ap (ltb a.size) (omega arith)
