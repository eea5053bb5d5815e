use Prim.Native.Nat.{ℕ, ◌+◌}
use mathlib.Core.Path.{◌≡◌, sym, ap, ap₂, ◌∙◌}
use lib.Bits.{bit_xor, xor_zero_l, xor_zero_r}
use native.Mathlib.Omega.{arith}
use Rattle.crc32_lemmas.specs.Fold.{up, num, remainder_from}
use Rattle.crc32_fold.specs.Carried.{carried}
use Rattle.crc32_fold.proofs.last_words.Goals as goal
use Rattle.crc32_fold.proofs.last_words.Goals.{After-take_in-a}

-- `crc32_fold::last_words` meets its contract: five words taken in, and nothing is added any more.
-- Assumes nothing.
pub returns : goal.returns
unfolding carried num
returns c = let c1 = (goal.at.returns c).After-take_in-a in
    let a = c1.args in
    let n = a.n in
    let s = a.s.now in
    let d : ℕ = bit_xor n.e (up 64 0) in
    let e : ℕ = bit_xor n.d (up 64 d) in
    let f : ℕ = bit_xor n.c (up 64 e) in
    let g : ℕ = bit_xor n.b (up 64 f) in
    let i2 : a.i + 16 ≡ a.i + 8 + 8 = omega arith in
    let i3 : a.i + 24 ≡ a.i + 16 + 8 = omega arith in
    let i4 : a.i + 32 ≡ a.i + 24 + 8 = omega arith in
    let i5 : a.i + 40 ≡ a.i + 32 + 8 = omega arith in
    ap₂ (remainder_from s) i5 (sym (xor_zero_r c.take_in.result)) ∙ c.take_in.ensures 0
    ∙ ap (λ (i : ℕ). remainder_from s i (bit_xor c.take_in-d.result d)) i4 ∙ c.take_in-d.ensures d
    ∙ ap (λ (i : ℕ). remainder_from s i (bit_xor c.take_in-c.result e)) i3 ∙ c.take_in-c.ensures e
    ∙ ap (λ (i : ℕ). remainder_from s i (bit_xor c.take_in-b.result f)) i2 ∙ c.take_in-b.ensures f
    ∙ c1.take_in-a.ensures g ∙ ap (remainder_from s a.i) (xor_zero_l (bit_xor n.a (up 64 g)))
