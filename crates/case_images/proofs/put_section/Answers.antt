use Rattle.case_images.proofs.put_section.Goals as goal

-- `put_section` meets its contract: the writes one after the other are the definition's.
-- Assumes nothing.
pub returns : goal.returns
returns c = cc
