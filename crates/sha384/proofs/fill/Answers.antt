use Prim.Native.Nat.{ℕ, ◌+◌}
use mathlib.Core.Path.{◌≡◌, sym, ap, ◌∙◌}
use mathlib.Core.List.{List}
use native.Mathlib.Omega.{arith}
use lib.ListN.{length}
use Rattle.sha384_block.specs.Fips.{compress_by, compress}
use Rattle.sha384.specs.State.{no_bytes, new_block}
use Rattle.sha384.specs.declared.Filling.{Filling}
use Rattle.sha384.proofs.Parts.{part_inside, part_last, block_whole}
use borrow.Author.Rules.{rules}
use Rattle.sha384.proofs.fill.Goals as goal

-- `sha384::fill` meets its contract: a whole block, a part that ends the block, a part that leaves room. Assumes nothing.
-- the next block starts after a hash value
begun : {x y b : List ℕ} → x ≡ y → b ≡ no_bytes → ◌≡◌ {A = Filling} (record { words = x; block = b; used = 0 }) (new_block y)
unfolding new_block
begun e f = cc

pub returns-then-size-eq-BLOCK_SIZE : goal.returns-then-size-eq-BLOCK_SIZE
returns-then-size-eq-BLOCK_SIZE c = let a = c.args in
    let p = c.requires in
    let s = a.part.now in
    begun (c.compress-whole.ensures ∙ ap (λ (ks : List ℕ). compress_by ks a.from.words s) p.k_value) c.no_bytes-none.ensures
    ∙ sym (block_whole a.from s (search rules) (search rules) (omega arith))

pub returns-then-used-size-eq-BLOCK_SIZE : goal.returns-then-used-size-eq-BLOCK_SIZE
returns-then-used-size-eq-BLOCK_SIZE c = let a = c.args in
    let p = c.requires in
    let s = a.part.now in
    let copied = c.copy in
    begun
    (c.compress-full.ensures ∙ ap (λ (ks : List ℕ). compress_by ks a.from.words copied.new.out) p.k_value ∙ ap (compress a.from.words) copied.ensures)
    c.no_bytes-next.ensures
    ∙ sym (part_last a.from s p.part_nonzero.0 (search rules))

pub returns : goal.returns
returns c = let a = c.args in
    let p = c.requires in
    let s = a.part.now in
    let n = p.part_nonzero.1 in
    ap (λ (l : List ℕ). with a.from (a.from.used + length s) l) c.copy.ensures
    ∙ sym (part_inside a.from s (search rules))
  where
    with : Filling → ℕ → List ℕ → Filling
    with m n l = record { words = m.words; block = l; used = n }
