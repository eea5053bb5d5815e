use Prim.Native.Nat.{ℕ, ◌+◌, ◌*◌, ◌%◌, ◌^◌}
use mathlib.Core.Path.{◌≡◌, sym, ap, ap₂, ◌∙◌}
use lib.Bits.{bit_xor}
use lib.Dec.{lit<}
use Rattle.crc32_lemmas.specs.Sizes.{ring_bytes}
use Rattle.crc32_lemmas.specs.Fold.{down, sparser, mix, ring}
use Rattle.crc32_fold.proofs.Carried.{emptied_start, emptied_next, emptied_end}
use Rattle.crc32_lemmas.proofs.FoldWords.{mix_from}
use Rattle.crc32_lemmas.proofs.FoldRing.{mix_past}
use native.Mathlib.Omega.{arith}
use Rattle.crc32_fold.proofs.empty_ring.Goals as goal

-- `crc32_fold::empty_ring` meets its contract: the words under the window are folded as bits, two at a time, with what the window adds to them.
-- Assumes nothing.
pub loop-j-init : goal.loop-j-init
loop-j-init c = let a = c.args in
    (omega arith, omega arith, emptied_start a.s.now a.at (mix sparser 32 (ring a.v.now 0)), lit< tt)

pub loop-j-preserved : goal.loop-j-preserved
loop-j-preserved c = let l = c.loop-j in
    let a = c.args in
    let r = c.le64 in
    let x = ring a.v.now 0 in
    let y = mix sparser 32 x in
    let e : (l.j + 2) * 4 ≡ l.j * 4 + 8 = omega arith in
    let b : 32 * l.j ≡ 8 * (l.j * 4) = omega arith in
    let p = ap₂ bit_xor (ap₂ bit_xor c.pair_at.ensures c.pair_at-in-loop-j.ensures) c.pair_at-in-loop-j-2.ensures
    ∙ sym (mix_from sparser 32 64 x l.j) ∙ ap (λ (k : ℕ). down k y % 2 ^ 64) b in (
      omega arith,
      omega arith,
      rw e (emptied_next a.s.now a.at y l.n c.fold_bits-next.result (l.j * 4) r.result _ l.invariant.3
          (omega arith, r.ensures.1, r.ensures.0) (omega arith) p c.fold_bits-next.ensures l.invariant.2),
      omega arith,
    )

pub returns : goal.returns
returns c = let l = c.loop-j in
    let a = c.args in
    let y = mix sparser 32 (ring a.v.now 0) in
    (emptied_end a.s.now a.at y l.n (l.j * 4) ring_bytes (omega arith) (mix_past a.v.now c.requires.1) l.invariant.2, l.invariant.3)

pub pair_at-requires : goal.pair_at-requires
pair_at-requires c = c.requires.1

pub pair_at-requires-in-loop-j : goal.pair_at-requires-in-loop-j
pair_at-requires-in-loop-j c = c.requires.1

pub pair_at-requires-in-loop-j-2 : goal.pair_at-requires-in-loop-j-2
pair_at-requires-in-loop-j-2 c = c.requires.1
