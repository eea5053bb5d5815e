use native.Mathlib.Omega.{arith}
use lib.ListN.{length-take}
use Rattle.case_images.proofs.put_image.Goals as goal

-- `put_image` meets its contract: the header, the sections, and the checksum of the bytes up to where they end.
-- Assumes nothing.
pub returns : goal.returns
returns c = record { value = cc; upper_bound = (omega arith, simp length-take (omega arith)); image_after = cc }
