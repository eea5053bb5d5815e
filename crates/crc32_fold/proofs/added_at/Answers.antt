use Prim.Native.Nat.{ℕ, ◌+◌, ◌<◌}
use mathlib.Core.Path.{sym, ap₂, ◌∙◌}
use lib.Bits.{bit_xor}
use lib.ListN.{get_or}
use Rattle.octets.specs.Bytes.{le_value}
use Rattle.crc32_lemmas.specs.Fold.{sparse, high_power, low_power, mid_power}
use Rattle.crc32_lemmas.proofs.FoldWords.{mix_from}
use Rattle.crc32_lemmas.proofs.FoldBytes.{eight}
use Rattle.crc32_fold.proofs.added_at.Goals as goal

-- `crc32_fold::added_at` meets its contract: eight bytes at each place of the multiple.
-- Assumes nothing.
pub returns : goal.returns
returns c = let w₄ = c.le64-4 in
    let w₃ = c.le64-3 in
    let w₂ = c.le64-2 in
    let w₁ = c.le64 in
    let a = c.args in
    let v = a.v.now in
    let j = a.j in
    let h : (k : ℕ) → get_or v k 0 < 256 = λ k. (c.type_inv.v k).fits in
    ap₂ bit_xor
    (ap₂ bit_xor
    (ap₂ bit_xor (eight v h j w₁.result w₁.ensures.1 w₁.ensures.0) (eight v h (j + low_power) w₂.result w₂.ensures.1 w₂.ensures.0))
    (eight v h (j + mid_power) w₃.result w₃.ensures.1 w₃.ensures.0))
    (eight v h (j + high_power) w₄.result w₄.ensures.1 w₄.ensures.0)
    ∙ sym (mix_from sparse 8 64 (le_value v) j)
