use Rattle.case_images.proofs.put_entry.Goals as goal

-- `put_entry` meets its contract: the writes one after the other are the definition's.
-- Assumes nothing.
pub returns : goal.returns
returns c = cc
