use Rattle.case_images.proofs.put_header.Goals as goal

-- `put_header` meets its contract: the writes one after the other are the definition's.
-- Assumes nothing.
pub returns : goal.returns
returns c = cc
