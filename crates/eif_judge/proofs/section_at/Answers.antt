use Rattle.eif_judge.proofs.section_at.Goals as goal

-- `eif_judge::section_at` meets its contract: each field is what was read, and since the section ends in the file, so does
-- its header, so that the position fits. Assumes nothing.
pub returns : goal.returns
returns c = cc
