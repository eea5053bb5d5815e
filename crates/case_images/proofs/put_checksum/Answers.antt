use Rattle.case_images.proofs.put_checksum.Goals as goal

-- `put_checksum` meets its contract: the checksum is that of the buffer as it came in.
-- Assumes nothing.
pub returns : goal.returns
returns c = cc
