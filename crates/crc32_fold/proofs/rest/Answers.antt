use Prim.Native.Nat.{◌+◌}
use mathlib.Core.Path.{refl, sym, ap, ◌∙◌}
use Rattle.crc32_lemmas.specs.Fold.{remainder_from}
use Rattle.crc32_fold.proofs.Carried.{bits_turn}
use native.Mathlib.Omega.{arith}
use Rattle.crc32_fold.proofs.rest.Goals as goal

-- `crc32_fold::rest` meets its contract: what is left, with what is carried added to it, has one remainder all along.
-- Assumes nothing.
pub loop-i-init : goal.loop-i-init
loop-i-init c = (c.requires.0, refl, c.requires.1)

pub loop-i-preserved : goal.loop-i-preserved
loop-i-preserved c = let l = c.loop-i in
    let s = c.args.s.now in
    let r = c.le64 in (
      omega arith,
      ap (remainder_from s (l.i + 8)) c.fold_bits-next.ensures
          ∙ sym (bits_turn l.n l.invariant.2 s l.i r.result (omega arith, r.ensures.1, r.ensures.0) (omega arith))
          ∙ l.invariant.1,
      omega arith,
    )

pub returns : goal.returns
returns c = c.tail.ensures ∙ c.last_words-c.ensures ∙ c.loop-i.invariant.1
