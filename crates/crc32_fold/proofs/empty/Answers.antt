use lib.Dec.{lit<}
use Rattle.octets.specs.Bytes.{le_value}
use Rattle.crc32_lemmas.specs.Fold.{sparse, mix}
use Rattle.crc32_lemmas.specs.Sizes.{emptied_size}
use Rattle.crc32_fold.proofs.Carried.{emptied_start, emptied_next, emptied_end}
use Rattle.crc32_lemmas.proofs.FoldBytes.{mix_end}
use native.Mathlib.Omega.{arith}
use Rattle.crc32_fold.proofs.empty.Goals as goal
use Rattle.crc32_fold.proofs.empty.Goals.{At-loop-j, Start}

-- `crc32_fold::empty` meets its contract: the bytes under the window are folded as bits, eight at a time, with what the window adds to them.
-- Assumes nothing.
pub loop-j-init : goal.loop-j-init
loop-j-init c = let a = c.args in
    (omega arith, omega arith, emptied_start a.s.now a.at (mix sparse 8 (le_value a.v.now)), lit< tt)

pub loop-j-preserved : goal.loop-j-preserved
loop-j-preserved c = let b = (goal.at.loop-j-preserved c).At-loop-j in
    let l = b.loop-j in
    let a = b.args in
    let r = c.le64 in
    let x = c.added_at in (
      omega arith,
      omega arith,
      emptied_next a.s.now a.at (mix sparse 8 (le_value a.v.now)) l.n c.fold_bits-next.result l.j r.result x.result l.invariant.3
          (omega arith, r.ensures.1, r.ensures.0) (omega arith) x.ensures c.fold_bits-next.ensures l.invariant.2,
      omega arith,
    )

pub returns : goal.returns
returns c = let l = c.loop-j in
    let b = (goal.at.returns c).Start in
    let a = b.args in
    let x = le_value a.v.now in
    (emptied_end a.s.now a.at (mix sparse 8 x) l.n l.j emptied_size (omega arith) (mix_end x b.requires.2) l.invariant.2, l.invariant.3)
