use Prim.Native.Nat.{◌*◌, ◌/◌, ◌%◌, ◌^◌, ◌<◌}
use mathlib.Core.Path.{sym, ap, ◌∙◌}
use native.Mathlib.Omega.{arith}
use lib.Bits.{bit_xor}
use Rattle.crc32_lemmas.specs.Fold.{down}
use Rattle.crc32_fold.specs.Carried.{carried}
use Rattle.crc32_lemmas.proofs.FoldBits.{next_carry, spread_bits}
use Rattle.crc32_fold.proofs.fold_bits.Goals as goal

-- `crc32_fold::fold_bits` meets its contract: the shifts are what the word adds, by five words.
-- Assumes nothing.
pub returns : goal.returns
unfolding carried
returns c = let n = c.args.n in
    let u = bit_xor n.a c.args.word in
    let l : n.a < 2 ^ 64 = omega arith in
    next_carry n.a n.b n.c n.d n.e (bit_xor (u * 2 ^ 55 % 2 ^ 64) (u * 2 ^ 17 % 2 ^ 64)) (bit_xor (bit_xor (u * 2 ^ 19 % 2 ^ 64) (u / 2 ^ 9)) (u / 2 ^ 47)) (bit_xor (u * 2 ^ 44 % 2 ^ 64) (u / 2 ^ 45)) (u / 2 ^ 20) l
    ∙ ap (bit_xor (down 64 (carried n))) (sym (spread_bits u))
