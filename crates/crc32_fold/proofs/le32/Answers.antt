use Prim.Native.Nat.{◌+◌}
use mathlib.Core.Path.{◌≡◌}
use native.Mathlib.Omega.{arith}
use Rattle.crc32_fold.proofs.le32.Goals as goal

-- `crc32_fold::le32` meets its contract.
-- Assumes nothing.
pub returns : goal.returns
returns c = let i = c.args.i in
    let e : i + 2 + 2 ≡ i + 4 = omega arith in
    let q = rw e at c.le16-2.ensures.0 in
    (omega arith, omega arith)
