use Prim.Native.Nat.{◌+◌}
use mathlib.Core.Path.{refl}
use Rattle.crc32_lemmas.proofs.Remainder.{le_step}
use borrow.Author.Rules.{rules}
use native.Mathlib.Omega.{arith}
use Rattle.crc32_fold.proofs.le16.Goals as goal

-- `crc32_fold::le16` meets its contract.
-- Assumes nothing.
pub returns : goal.returns
returns c = let a = c.args in
    let s = a.s.now in
    let p = le_step s a.i (a.i + 1) (search rules) refl in
    let q = le_step s (a.i + 1) (a.i + 2) (omega arith) (omega arith) in
    (omega arith, omega arith)
