-- What putting a checksum leaves in a buffer.
-- Assumes nothing.
use Rattle.std.specs.Prelude.{ℕ, List, take}
use Rattle.octets.specs.Bytes.{be_bytes}
use Rattle.octets.specs.Over.{over}
use Rattle.eif.specs.Layout.{checksum_at}
use Rattle.eif.specs.Reading.{checksum_of}

-- a buffer whose first `size` bytes are an image, with the checksum of that image in its place
unfoldable pub with_checksum : List ℕ → ℕ → List ℕ
with_checksum d size = over d checksum_at (be_bytes 4 (checksum_of (take size d)))
