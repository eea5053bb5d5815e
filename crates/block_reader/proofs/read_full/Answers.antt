use Rattle.std.proofs.Common.{◌≡◌, ℕ, ◌+◌, ◌-◌, ◌≤◌, List, ◌++◌, rules, length, take, drop, sym, ap, ◌∙◌, subst, le_refl, drop_at, length-take-le}
use Rattle.std.proofs.lemmas.Slice.{take-put_mid_below}
use Rattle.std.specs.Io.KnownBytes.{Consumes}
use Rattle.std.proofs.KnownBytes.{Consumes-trans}
use borrow.Rule.Slice.PartMut.{put_mid, post_of}
use lib.Seq.{take-add, take-append-le}
use Rattle.block_reader.proofs.read_full.Goals as goal

-- the front of a buffer into which bytes were put from a place on: what stood before the place, and the first of the bytes
front : (a k n : ℕ) (xs ys : List ℕ) → a ≤ length xs → n ≤ length ys → take a xs ++ take n ys ≡ take (a + n) (put_mid a k xs ys)
front a k n xs ys within fits =
    let after = post_of a k xs in
    let first = take-put_mid_below a k xs ys a (le_refl a) within in
    let second : take n (drop a (put_mid a k xs ys)) ≡ take n ys =
    ap (take n) (drop_at (take a xs) (ys ++ after) a (length-take-le a xs within)) ∙ take-append-le n ys after fits in
    sym (take-add a n (put_mid a k xs ys) ∙ ap (λ l. l ++ take n (drop a (put_mid a k xs ys))) first ∙ ap (λ l. take a xs ++ l) second)

pub loop-done-preserved : goal.loop-done-preserved
loop-done-preserved g c =
    let l = c.loop-done in
    let e = c.read_some-n.ensures in
    let joined = front l.done (length l.buffer - l.done) c.read_some-n.result l.buffer c.read_some-n.new.buffer l.invariant.in_bounds e.in_bounds in
    record {
      length_kept = search rules;
      in_bounds = search rules;
      bytes = subst (Consumes _ _) joined (Consumes-trans _ _ _ _ _ l.invariant.bytes e.bytes);
    }
