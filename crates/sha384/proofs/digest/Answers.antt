use Prim.Native.Nat.{◌*◌}
use mathlib.Core.Path.{◌≡◌, refl, ap, ◌∙◌}
use native.Mathlib.Omega.{arith}
use lib.ListN.{length, get_or, replicate}
use Rattle.octets.specs.Bytes.{be_bytes}
use Rattle.octets.proofs.Over.{length_over}
use Rattle.sha384_block.specs.Fips.{word_size, digest_size}
use Rattle.sha384.proofs.Words.{word_next, digest_is}
use borrow.Author.Rules.{rules}
use Rattle.sha384.proofs.digest.Goals as goal

-- `sha384::digest` meets its contract: the words left to write over the output give all words over zeros, of which a digest's bytes stay. Assumes nothing.
pub loop-i-init : goal.loop-i-init
loop-i-init c = (omega arith, refl, refl)

pub loop-i-preserved : goal.loop-i-preserved
loop-i-preserved c = let l = c.loop-i in
    let ws = c.args.words in
    let size : length ws ≡ 8 = search rules in
    let y = c.put_be64.ensures in (
      omega arith,
      ap length y ∙ length_over l.out (word_size * l.i) (be_bytes word_size (get_or ws l.i 0)) ∙ l.invariant.1,
      word_next l.out c.put_be64.new.out ws l.i (omega arith) y ∙ l.invariant.2,
    )

pub returns : goal.returns
returns c = let l = c.loop-i in
    let ws = c.args.words in
    digest_is (replicate digest_size 0) l.out ws l.i refl l.invariant.1 (search rules) (omega arith) l.invariant.2
