use Prim.Native.Nat.{ℕ, ◌+◌}
use mathlib.Core.Path.{sym, ap, ◌∙◌}
use lib.Bits.{bit_xor}
use Rattle.crc32.specs.Crc.{shift_bits}
use Rattle.crc32_lemmas.specs.Fold.{remainder_from}
use Rattle.crc32_lemmas.proofs.Remainder.{remainder_more}
use Rattle.crc32_fold.proofs.take_in.Goals as goal

-- `crc32_fold::take_in` meets its contract: 64 steps of the word with what was added.
-- Assumes nothing.
pub returns : goal.returns
returns c y = let a = c.args in
    let s = a.s.now in
    let w = c.le64 in
    let e = c.steps64.ensures ∙ ap (λ (x : ℕ). shift_bits 64 (bit_xor x (bit_xor a.more w.result))) c.wide32.ensures.0 in
    ap (λ (x : ℕ). remainder_from s (a.i + 8) (bit_xor x y)) e
    ∙ sym (remainder_more s a.i w.result a.state a.more y (c.requires, w.ensures.1, w.ensures.0))
