use Rattle.eif_c.proofs.signature.eif_sign1_read.Goals as goal

-- `eif_sign1_read` meets its contract: what it calls ensures the answer, made flat.
-- Assumes nothing.
pub returns : goal.returns
returns c = cc
