use Prim.Native.Nat.{◌+◌}
use mathlib.Core.Path.{◌≡◌}
use native.Mathlib.Omega.{arith}
use Rattle.crc32_fold.proofs.le64.Goals as goal

-- `crc32_fold::le64` meets its contract: two halves.
-- Assumes nothing.
pub returns : goal.returns
returns c = let i = c.args.i in
    let e : i + 4 + 4 ≡ i + 8 = omega arith in
    let q = rw e at c.le32-2.ensures.0 in
    (omega arith, omega arith)
