use mathlib.Core.Path.{refl, sym}
use native.Mathlib.Omega.{arith}
use lib.ListN.{length-take}
use lib.Seq.{take_all}
use borrow.Author.Rules.{rules}
use Rattle.eif.specs.Layout.{checksum_at}
use Rattle.eif_checksum.proofs.front.Goals as goal

-- `front` meets its contract: a shorter slice is its own beginning.
-- Assumes nothing.
pub returns-then-image-lt-CHECKSUM_AT : goal.returns-then-image-lt-CHECKSUM_AT
returns-then-image-lt-CHECKSUM_AT c = record { result_value = sym (take_all checksum_at c.args.image.now (omega arith)); ref_ptr_value = refl }

pub slice_bounds-result-end : goal.slice_bounds-result-end
slice_bounds-result-end c = simp length-take (omega arith)

pub returns : goal.returns
returns c = record { result_value = search rules; ref_ptr_value = search rules }
