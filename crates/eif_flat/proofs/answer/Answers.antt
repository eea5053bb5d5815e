use Rattle.eif_flat.proofs.answer.Goals as goal

-- `answer` meets its contract: what it calls ensures the answer, made flat.
-- Assumes nothing.
pub returns : goal.returns
returns c = cc
