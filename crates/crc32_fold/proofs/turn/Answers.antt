use mathlib.Core.Path.{sym}
use lib.Bits.{bit_xor, xor_lt}
use lib.ListN.{get_or}
use Rattle.crc32_lemmas.specs.Sizes.{ring_buffer}
use Rattle.crc32_lemmas.proofs.FoldRing.{ring_turn}
use Rattle.crc32_lemmas.proofs.FoldWords.{words_set}
use native.Mathlib.Omega.{arith}
use Rattle.crc32_fold.proofs.turn.Goals as goal

-- `crc32_fold::turn` meets its contract: the word takes the place of the oldest.
-- Assumes nothing.
pub returns : goal.returns
returns c =
    let a = c.args in
    let v = a.v.now in
    let h = c.requires in
    let r = c.le32 in
    let u = bit_xor (bit_xor (get_or v a.j 0) (get_or v a.p 0)) (get_or v a.q 0) in
    let l = xor_lt 32 (bit_xor (get_or v a.j 0) (get_or v a.p 0)) (get_or v a.q 0) (xor_lt 32 (get_or v a.j 0) (get_or v a.p 0) (h.4.1 a.j) (h.4.1 a.p)) (h.4.1 a.q) in (
      sym (ring_turn v h.4 a.j a.p a.q h.1 h.2 h.3 a.s.now a.at r.result (omega arith, r.ensures.1, r.ensures.0) h.0),
      words_set 32 ring_buffer v a.j (bit_xor u r.result) (xor_lt 32 u r.result l r.ensures.1) h.4,
    )
