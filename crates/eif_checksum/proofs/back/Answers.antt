use Prim.Native.Nat.{ℕ}
use mathlib.Core.Path.{sym, ap, ◌∙◌}
use native.Mathlib.Omega.{arith}
use lib.ListN.{length, drop_of_length-le}
use borrow.Author.Rules.{part_to_end}
use Rattle.eif.specs.Layout.{checksum_end}
use Rattle.eif_checksum.proofs.back.Goals as goal

-- `back` meets its contract: a slice that ends before has nothing there.
-- Assumes nothing.
pub returns-then-image-lt-CHECKSUM_END : goal.returns-then-image-lt-CHECKSUM_END
returns-then-image-lt-CHECKSUM_END c = let a = c.args.image in
    let s = a.now in record { result_value = part_to_end s (length s) ∙ drop_of_length-le s {i = length s} (omega arith) ∙ sym (drop_of_length-le s {i = checksum_end} (omega arith)); ref_ptr_value = ap (λ (k : ℕ). (a.ref_ptr.0, k)) (omega arith) }

pub returns : goal.returns
returns c = let a = c.args.image in record { result_value = part_to_end a.now checksum_end; ref_ptr_value = ap (λ (k : ℕ). (a.ref_ptr.0, k)) (omega arith) }
