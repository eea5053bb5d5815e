use Prim.Native.Nat.{ℕ, ◌+◌, ◌*◌, ◌^◌, ◌<◌}
use mathlib.Core.Path.{◌≡◌, ap, ◌∙◌}
use mathlib.Core.List.{◌∷◌}
use lib.ListN.{replicate, length-take}
use Rattle.crc32_lemmas.specs.Sizes.{buffer_rest}
use Rattle.crc32_lemmas.specs.Fold.{down, remainder_from, sparse, mix, window_size}
use Rattle.crc32_lemmas.proofs.FoldWords.{words_cons, words_none}
use Rattle.crc32_lemmas.proofs.FoldBytes.{bytes_back, start_window, window_end}
use Rattle.crc32_lemmas.proofs.Remainder.{remainder_crc}
use borrow.Author.Rules.{rules}
use native.Mathlib.Omega.{arith}
use Rattle.crc32_fold.proofs.long.Goals as goal

-- `crc32_fold::long` meets its contract: what is left, with what the window adds to it, has one remainder all along.
-- Assumes nothing.
pub loop-i-init : goal.loop-i-init
loop-i-init c =
    let x = c.args.state in
    let s = c.args.s.now in
    let p = c.low8 in
    let q = c.low8-2 in
    let r = c.low8-3 in
    let t = c.low8-4 in
    let l : x < 2 ^ 32 = c.ranges.state.fits in
    let e : p.result + 256 * (q.result + 256 * (r.result + 256 * (t.result + 0))) ≡ x =
    bytes_back x p.result q.result r.result t.result l p.ensures q.ensures r.ensures t.ensures in
    let w = words_cons 8 (3 + buffer_rest) p.result (q.result ∷ r.result ∷ t.result ∷ replicate buffer_rest 0) (omega arith)
    (words_cons 8 (2 + buffer_rest) q.result (r.result ∷ t.result ∷ replicate buffer_rest 0) (omega arith)
    (words_cons 8 (1 + buffer_rest) r.result (t.result ∷ replicate buffer_rest 0) (omega arith) (words_cons 8 buffer_rest t.result (replicate buffer_rest 0) (omega arith) (words_none 8 buffer_rest)))) in
    (search rules, ap (remainder_from s 0) (start_window x p.result q.result r.result t.result w.1 l e) ∙ remainder_crc s x (λ k. (c.type_inv.s k).fits), w)

pub fold_bytes-requires : goal.fold_bytes-requires
fold_bytes-requires c = let n = c.lesser-n.ensures in (omega arith, omega arith, c.loop-i.invariant.2)

pub move_back-requires : goal.move_back-requires
move_back-requires c = let n = c.lesser-n.ensures in (omega arith, omega arith, c.fold_bytes.ensures.1)

pub loop-i-preserved : goal.loop-i-preserved
loop-i-preserved c = let l = c.loop-i in
    let s = c.args.s.now in
    let n = c.lesser-n.result in
    (omega arith, ap (λ (x : ℕ). remainder_from s (l.i + n) (mix sparse 8 x)) c.move_back.ensures.0 ∙ c.fold_bytes.ensures.0 ∙ l.invariant.1, c.move_back.ensures.1)

pub clear-requires : goal.clear-requires
clear-requires c = c.loop-i.invariant.2

pub slice_bounds-empty-end : goal.slice_bounds-empty-end
slice_bounds-empty-end c = let n = c.clear.ensures.1 in simp length-take (omega arith)

pub empty-n-requires : goal.empty-n-requires
empty-n-requires c = let l = c.loop-i in
    let d = c.clear.ensures in
    let n = d.1 in
    (omega arith, simp length-take (omega arith), ap (down (8 * window_size)) d.0 ∙ window_end l.v l.invariant.2.1)

pub rest-requires : goal.rest-requires
rest-requires c = (omega arith, c.empty-n.ensures.1)

pub returns : goal.returns
returns c = let l = c.loop-i in
    let s = c.args.s.now in
    c.rest.ensures ∙ c.empty-n.ensures.0 ∙ ap (λ (x : ℕ). remainder_from s l.i (mix sparse 8 x)) c.clear.ensures.0 ∙ l.invariant.1
