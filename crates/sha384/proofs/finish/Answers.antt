use native.Mathlib.Omega.{arith}
use lib.Seq.{length-take-le}
use Prim.Native.Nat.{◌+◌}
use mathlib.Core.Path.{sym, ap, ◌∙◌}
use Rattle.sha384_block.specs.Fips.{least_padding, digest_of}
use Rattle.sha384.specs.State.{take_bytes, filling_of, digest_from}
use Rattle.sha384.specs.declared.Filling.{Filling}
use Rattle.sha384.proofs.finish.Goals as goal

-- `sha384::finish` meets its contract: the padding is taken like any bytes. Assumes nothing.
pub padding_of-pad-requires : goal.padding_of-pad-requires
padding_of-pad-requires c = c.zeros_for-zeros.ensures

pub slice_bounds-take_bytes-end : goal.slice_bounds-take_bytes-end
slice_bounds-take_bytes-end c = let z = c.zeros_for-zeros in
    let e = c.padding_of-pad.ensures.0 in
    sym (length-take-le (z.result + least_padding) c.padding_of-pad.result (omega (arith, z.ensures)))

pub returns : goal.returns
unfolding digest_from
returns c = let st = c.args.state in
    let y = c.take_bytes-last.ensures ∙ ap (take_bytes (filling_of st)) c.padding_of-pad.ensures.1 in
    c.digest.ensures ∙ ap (λ (m : Filling). digest_of m.words) y
