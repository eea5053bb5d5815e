use Prim.Native.Nat.{ℕ, ◌+◌, ◌*◌}
use mathlib.Core.Path.{refl, sym, ap, ◌∙◌}
use lib.Bits.{bit_xor}
use lib.ListN.{drop}
use Rattle.crc32.specs.Crc.{shift_bits}
use Rattle.octets.specs.Bytes.{le_value}
use Rattle.crc32_lemmas.specs.Fold.{remainder_from}
use Rattle.crc32_lemmas.proofs.Remainder.{remainder_next, remainder_end, le_step}
use borrow.Author.Rules.{rules}
use native.Mathlib.Omega.{arith}
use Rattle.crc32_fold.proofs.tail.Goals as goal

-- `crc32_fold::tail` meets its contract: what is left, from the remainder so far, gives the whole's remainder.
-- Assumes nothing.
pub loop-i-preserved : goal.loop-i-preserved
loop-i-preserved c = let l = c.loop-i in
    let s = c.args.s.now in
    let w = c.wide32 in
    let r = c.le64 in
    let e = c.steps64-c.ensures ∙ ap (λ (x : ℕ). shift_bits 64 (bit_xor x r.result)) w.ensures.0 in
    (omega arith, ap (remainder_from s (l.i + 8)) e ∙ sym (remainder_next s l.i 8 r.result l.c (omega arith, r.ensures.1, r.ensures.0)) ∙ l.invariant.1)

pub loop-i-2-preserved : goal.loop-i-2-preserved
loop-i-2-preserved c = let l = c.loop-i-2 in
    let s = c.args.s.now in
    let r = c.le32 in
    (omega arith, ap (remainder_from s (l.i + 4)) c.steps32-c.ensures ∙ sym (remainder_next s l.i 4 r.result l.c (omega arith, r.ensures.1, r.ensures.0)) ∙ l.invariant.1)

pub loop-i-3-preserved : goal.loop-i-3-preserved
loop-i-3-preserved c = let l = c.loop-i-3 in
    let s = c.args.s.now in
    let r = c.wide8 in
    let e = le_step s l.i (l.i + 1) (omega arith) refl ∙ ap (λ (x : ℕ). x + 256 * le_value (drop (l.i + 1) s)) (sym r.ensures.0) in
    (omega arith, ap (remainder_from s (l.i + 1)) c.steps8-c.ensures ∙ sym (remainder_next s l.i 1 r.result l.c (omega arith, r.ensures.1, e)) ∙ l.invariant.1)

pub returns : goal.returns
returns c = let l = c.loop-i-3 in
    let s = c.args.s.now in
    sym (remainder_end s l.i l.c (omega arith)) ∙ l.invariant.1

pub loop-i-init : goal.loop-i-init
loop-i-init c = (search rules, refl)

pub loop-i-2-init : goal.loop-i-2-init
loop-i-2-init c = c.loop-i.invariant

pub loop-i-3-init : goal.loop-i-3-init
loop-i-3-init c = c.loop-i-2.invariant
